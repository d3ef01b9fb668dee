-- The parser's states of an accepted program fit: what they name is there.
use Rattle.std.proofs.Common.{◌≡◌, inl, inr, ℕ, ◌<◌, Bool, true, false, ◌&&◌, ◌||◌, cond, Option, Some, None, List, [], ◌∷◌, length, refl, sym, ap, ◌∙◌, subst, arith}
use Rattle.std.specs.Prelude.{option_and_then, flat_map, is_some, is_none, unwrap_or, sum_by, codes}
use Rattle.std.specs.List.{list_any}
use Rattle.std.specs.Option.{option_map_or}
use Rattle.std.specs.Str.{bytes_eq}
use Rattle.std.proofs.lemmas.Bool.{ltb-false, leb-false}
use Rattle.std.proofs.lemmas.List.{length-map}
use Rattle.std.proofs.lemmas.List.Sums.{sum-map}
use Rattle.p414_syntax.specs.declared.lexeme.Literal.{Literal}
use Rattle.p414_syntax.specs.declared.parts.Index.{Index}
use Rattle.p414_syntax.specs.declared.parts.Index.TheVariants.{At, Next, Last}
use Rattle.p414_syntax.specs.declared.parts.Inst.{Inst}
use Rattle.p414_syntax.specs.declared.parts.Ref.{Ref}
use Rattle.p414_syntax.specs.declared.parsers.Case.{Case}
use Rattle.p414_syntax.specs.declared.parsers.CaseTarget.{CaseTarget}
use Rattle.p414_syntax.specs.declared.parsers.CaseTarget.TheVariants as case_target
use Rattle.p414_syntax.specs.declared.parsers.PValue.{PValue}
use Rattle.p414_syntax.specs.declared.parsers.PValue.TheVariants as pvalue
use Rattle.p414_syntax.specs.declared.parsers.PStmt.{PStmt}
use Rattle.p414_syntax.specs.declared.parsers.PStmt.TheVariants as pstmt
use Rattle.p414_syntax.specs.declared.parsers.Return.{Return}
use Rattle.p414_syntax.specs.declared.parsers.Return.TheVariants as end_of
use Rattle.p414_syntax.specs.declared.parsers.Parser.{Parser}
use Rattle.p414_syntax.specs.declared.syntax.Decl.{Decl}
use Rattle.p414_syntax.specs.declared.syntax.Decl.TheVariants as decl
use Rattle.p414_syntax.specs.declared.syntax.Sort.TheVariants as sort
use Rattle.p414_syntax.specs.Names.{Name, declared_in, is_declared}
use Rattle.p414_syntax.specs.Breaks.{BreaksNone, program_rules, IsBroken}
use Rattle.p414_syntax.specs.Fields.{instance_of, instance_type, size_in, width_in, width_of, type_of, type_name_in, field_bits, stack_size, is_instance}
use Rattle.p414_syntax.specs.Stacks.{declares_bad_size, is_bad_extract, is_misplaced}
use Rattle.p414_syntax.specs.Totals.{elements_of}
use Rattle.p414_syntax.specs.Primitives.{is_standard, standard_width, left_out_fields}
use Rattle.p414_syntax.specs.ParserGraph.{instance_number}
use Rattle.p414_syntax.specs.Selects.{is_early, value_bits, joins_too_much, state_joins_too_much, has_bad_select}
use Rattle.p414_syntax.specs.Unknown.{is_unknown}
use Rattle.p414_syntax.specs.Unsupported.{is_error_target, is_error_case, ends_in_error, declares_unsupported, is_last, is_last_index, is_unsupported_use}
use Rattle.p414_syntax.specs.Uses.{Use, of_extracted, of_field, of_latest, uses, uses_of, uses_of_value, uses_of_statement, uses_of_statements, uses_of_return, last_behind, last_of}
use Rattle.p414_sem.specs.Slots.{slot_of, bits_of_ref, field_number}
use Rattle.p414_sem.specs.Packing.{widths_of}
use Rattle.agreement_of_meanings.specs.Shown.{fields_of, width_of as width_of16}
use Rattle.agreement_of_meanings.specs.Lowered.{IsState, LeadToStates}
use Rattle.lower_laws_states.specs.Expansions.{Has}
use Rattle.lower_laws_states.specs.Fits.{slot_bits}
use Rattle.lower_laws_states.proofs.Members.{has_joined, joined_has, has_left, has_right, neither, not_true, none_passes}
use Rattle.lower_laws_states.proofs.Declared.{numbered_so, is_there, not_standard}
use Rattle.lower_laws_states.proofs.Named.{widths_named}
use Rattle.p414_sem.specs.declared.standard.Standard.TheVariants.{IngressPort, EgressSpec, EgressPort, PacketLength, InstanceType}
use Rattle.p414_sem.specs.Slots.{standard, standard_field, declared_slot}
use Rattle.p414_sem.specs.Packing.{type_widths}
use Rattle.p414_syntax.specs.Names.{find_name, has_name, field_name}
use Rattle.p414_syntax.specs.Expansion.{type_fields}
use Rattle.p414_syntax.specs.Views.{HeaderTypeTree}
use Rattle.std.proofs.lemmas.List.Quantifiers.{position-Some}
use Rattle.std.proofs.lemmas.List.{get_or_past}
use Rattle.std.proofs.lemmas.Option.{unwrap_or-slice_get, slice_get-map}
use Rattle.p414_syntax.specs.Unsupported.{is_unsupported_standard}
use Rattle.std.specs.Prelude.{slice_index, slice_get, option_map}
use Rattle.lower_laws_states.proofs.Rules.{none_twice, none_unknown, stacks_right, all_supported}
use Rattle.lower_laws_states.proofs.Standing.{field_stands}
use Rattle.std.proofs.lemmas.Option.{get_or_from_slice_get}
use Rattle.lower_laws_base.specs.Context.{StateLayout, shown_on, Lowering}
use Rattle.lower_laws_parser.specs.Words.{ParserWords}
use Rattle.lower_laws_parser.specs.Parsing.{IsIndex, InstFits, LatestFits, ValueFits, StmtFits, BodyFits, ValuesFit, EndFits, StateFits}
use Rattle.p416_syntax.specs.declared.parsers.Parser16.{Parser16}
use Rattle.v1_core.specs.Surroundings.{Setting}
use Rattle.lower_laws_program.specs.TypesFit.{IsStack, StackShown, TypeWords, TypesFit}
use Rattle.lower_laws_program.specs.Fits.{SelectHas, parser_lowering}
use Rattle.lower_laws_program.proofs.Standing.{elements_are, inside, its, is_plain, slot_is, bits_are}
use Rattle.lower_laws_program.proofs.Order.{extracted_header}
use Rattle.p414_sem.specs.Expanded.{Expanded}
use Rattle.p416_syntax.specs.declared.program.Decl16.{Decl16}

selects_right : (ds : List Decl) → BreaksNone ds program_rules → has_bad_select ds ≡ false
unfolding IsBroken
selects_right ds none = not_true (has_bad_select ds) none.1.1.1.1.1.0

-- a field by its name

field_there : (t : HeaderTypeTree) (field : Name) → slice_index (type_widths t) (unwrap_or (find_name (type_fields t) field) (length (type_fields t))) ≡ unwrap_or (width_in t field) 0
field_there t field = by (find_name (type_fields t) field) where
  by : (o : Option ℕ) → slice_index (type_widths t) (unwrap_or o (length (type_fields t))) ≡ unwrap_or (option_map field_bits (option_and_then (slice_get t.fields) o)) 0
  by None = get_or_past (type_widths t) (length (type_fields t)) 0 (omega (arith, length-map t.fields field_bits, length-map t.fields field_name))
  by (Some k) = sym (unwrap_or-slice_get (type_widths t) k 0) ∙ ap (λ (o : Option ℕ). unwrap_or o 0) (slice_get-map field_bits t.fields k)

field_named : (ds : List Decl) (name field : Name) → slice_index (widths_of ds name) (field_number ds name field) ≡ unwrap_or (option_and_then (λ t. width_in t field) (instance_type ds name)) 0
field_named ds name field = by (instance_type ds name) where
  by : (o : Option HeaderTypeTree) → slice_index (option_map_or type_widths o []) (unwrap_or (find_name (option_map_or type_fields o []) field) (length (option_map_or type_fields o []))) ≡ unwrap_or (option_and_then (λ t. width_in t field) o) 0
  by None = refl
  by (Some t) = field_there t field

-- the bits of a reference are those of its slot
pub bits_named : (ds : List Decl) → BreaksNone ds program_rules → (r : Ref) → Has (uses ds) (of_field r) → bits_of_ref ds r ≡ slot_bits ds (slot_of ds r)
bits_named ds none r used =
    by (is_standard r.instance.name) (none_passes (is_unknown ds) (uses ds) (of_field r) (neither (list_any (is_unknown ds) (uses ds)) _ (none_unknown ds none)).0 used)
    (neither (is_last r.instance) (is_unsupported_standard r) (none_passes is_unsupported_use (uses ds) (of_field r) (neither _ _ (neither (list_any declares_unsupported ds) _ (all_supported ds none)).1).0 used)).1
  where
    elsewhere : unwrap_or (option_and_then (λ t. width_in t r.field) (instance_type ds r.instance.name)) 0 ≡ slot_bits ds (declared_slot ds r)
    elsewhere = sym (ap (λ l. slice_index l (field_number ds r.instance.name r.field)) (widths_named ds r.instance.name) ∙ field_named ds r.instance.name r.field)

    at : (a b c d e f : Bool) → is_none {T = ℕ} (cond (a || (b || (c || false))) (Some 9) (cond (d || (e || false)) (Some 32) (cond f (Some 0) None))) ≡ false → f ≡ false
        → unwrap_or (cond (a || (b || (c || false))) (Some 9) (cond (d || (e || false)) (Some 32) (cond f (Some 0) None))) 0 ≡ slot_bits ds (option_map_or standard (cond a (Some IngressPort) (cond b (Some EgressSpec) (cond c (Some EgressPort) (cond d (Some PacketLength) (cond e (Some InstanceType) None))))) (declared_slot ds r))
    at true b c d e f there kept = refl
    at false true c d e f there kept = refl
    at false false true d e f there kept = refl
    at false false false true e f there kept = refl
    at false false false false true f there kept = refl
    at false false false false false true there kept = absurd (cc kept)
    at false false false false false false there kept = absurd (cc there)

    by : (b : Bool) → is_none (cond b (standard_width r.field) (option_and_then (λ t. width_in t r.field) (instance_type ds r.instance.name))) ≡ false → b && has_name left_out_fields r.field ≡ false → unwrap_or (cond b (standard_width r.field) (option_and_then (λ t. width_in t r.field) (instance_type ds r.instance.name))) 0 ≡ slot_bits ds (cond b (option_map_or standard (standard_field r.field) (declared_slot ds r)) (declared_slot ds r))
    by true there kept =
        at (bytes_eq r.field (codes "ingress_port")) (bytes_eq r.field (codes "egress_spec")) (bytes_eq r.field (codes "egress_port")) (bytes_eq r.field (codes "packet_length")) (bytes_eq r.field (codes "instance_type")) (has_name left_out_fields r.field) there kept
    by false there kept = elsewhere

-- a field of an instance that is there
record IsFound (ds : List Decl) (name field : Name) : Type 0 where
  within : field_number ds name field < length (widths_of ds name)

found : (ds : List Decl) (name field : Name) → is_none (option_and_then (λ t. width_in t field) (instance_type ds name)) ≡ false → IsFound ds name field
found ds name field there = by (instance_of ds name) refl there where
  at : (t : HeaderTypeTree) → is_none (width_in t field) ≡ false → unwrap_or (find_name (type_fields t) field) (length (type_fields t)) < length (type_widths t)
  at t there = of (find_name (type_fields t) field) refl there where
    of : (o : Option ℕ) → find_name (type_fields t) field ≡ o → is_none (option_map field_bits (option_and_then (slice_get t.fields) o)) ≡ false → unwrap_or o (length (type_fields t)) < length (type_widths t)
    of None e there = absurd (cc there)
    of (Some k) e there = omega (arith, (position-Some (bytes_eq field) (type_fields t) k [] e).0, length-map t.fields field_bits, length-map t.fields field_name)

  typed : (o : Option HeaderTypeTree) → is_none (option_and_then (λ t. width_in t field) o) ≡ false → unwrap_or (find_name (option_map_or type_fields o []) field) (length (option_map_or type_fields o [])) < length (option_map_or type_widths o [])
  typed None there = absurd (cc there)
  typed (Some t) there = at t there

  by : (o : Option Decl) → instance_of ds name ≡ o → is_none (option_and_then (λ t. width_in t field) (option_and_then (type_of ds) (option_and_then type_name_in o))) ≡ false → IsFound ds name field
  by None e there = absurd (cc there)
  by (Some d) e there = record { within = typed (instance_type ds name) (ap (λ (o : Option Decl). is_none (option_and_then (λ t. width_in t field) (option_and_then (type_of ds) (option_and_then type_name_in o)))) e ∙ there) }

module _ (g : StateLayout) (ds : List Decl) (x : Expanded) (t : TypeWords) (types : List Decl16) (fits : TypesFit g ds x t types) (none : BreaksNone ds program_rules) (c16 : Setting) (q : Parser16) where
  abbrev c : Lowering
  c = parser_lowering g t c16 q

  -- the index of what is extracted
  index_fits : (k : ℕ) (size : Option Literal) (ix : Option Index) → elements_of size ≡ g.size_of k → (is_some size ≡ true → IsStack (shown_on g k)) → is_bad_extract size ix ≡ false → is_last_index ix ≡ false → IsIndex c k ix
  index_fits k None None same stack right last = omega (arith, same)
  index_fits k None (Some (At n)) same stack right last = absurd (cc right)
  index_fits k None (Some Next) same stack right last = absurd (cc right)
  index_fits k None (Some Last) same stack right last = absurd (cc right)
  index_fits k (Some n) None same stack right last = absurd (cc right)
  index_fits k (Some n) (Some (At j)) same stack right last = omega (arith, same, leb-false n.value j.value right)
  index_fits k (Some n) (Some Next) same stack right last = stack refl
  index_fits k (Some n) (Some Last) same stack right last = absurd (cc last)

  inst_fits : (p : Parser) → Has ds (decl.Parser p) → (i : Inst) → Has p.statements (pstmt.Extract i) → Has (uses ds) (of_extracted i) → InstFits c ds i
  inst_fits p declared i has used =
      let h = extracted_header g ds fits.shown fits.widths none p declared i has in
      let there = numbered_so ds i.name (decl.Header h.0) h.1 in
      let k = instance_number ds i.name in
      let inner = inside g ds fits.shown fits.widths k (decl.Header h.0) there in
      let shows = its g ds fits.shown fits.widths k (decl.Header h.0) there in
      let judged : is_instance ds i.name && is_bad_extract (stack_size ds i.name) i.index ≡ false = none_passes (is_misplaced ds) (uses ds) (of_extracted i) (neither (list_any declares_bad_size ds) _ (stacks_right ds none)).1 used in
      let last : is_last i ≡ false = none_passes is_unsupported_use (uses ds) (of_extracted i) (neither _ _ (neither (list_any declares_unsupported ds) _ (all_supported ds none)).1).0 used in
      let stack : StackShown (decl.Header h.0) (shown_on g k) = subst (λ (e : Decl). StackShown e (shown_on g k)) (get_or_from_slice_get (declared_in sort.Instance ds) k (decl.Header h.0) (decl.Header h.0) there) (fits.stacks k inner (decl.Header h.0)) in
      let size_is : stack_size ds i.name ≡ h.0.size = ap (λ (o : Option Decl). option_and_then size_in o) h.1 in
      record {
        instance = inner;
        plain = is_plain ds h.0 (shown_on g k) (g.size_of k) shows;
        index = index_fits k h.0.size i.index (elements_are ds (decl.Header h.0) (shown_on g k) (g.size_of k) shows) stack
            (by h.0.size (is_standard i.name) (is_there ds i.name (decl.Header h.0) h.1) (ap (λ (o : Option Literal). is_instance ds i.name && is_bad_extract o i.index) (sym size_is) ∙ judged)) last;
      } where
        by : (size : Option Literal) (b : Bool) → is_declared sort.Instance ds i.name ≡ true → (b || is_declared sort.Instance ds i.name) && is_bad_extract size i.index ≡ false → is_bad_extract size i.index ≡ false
        by size true declared judged = judged
        by size false declared judged = ap (λ (d : Bool). d && is_bad_extract size i.index) (sym declared) ∙ judged

  -- what was extracted last
  abbrev pub LastFits : Option Inst → Type 0
  LastFits None = Unit {0}
  LastFits (Some i) = InstFits c ds i × (is_standard i.name ≡ false)

  abbrev pub AreUsed : List Use → Type 0
  AreUsed us = (u : Use) → Has us u → Has (uses ds) u

  latest_fits : (last : Option Inst) (called : Name) → LastFits last → Has (uses ds) (of_latest last called) → LatestFits c ds last called
  latest_fits None called is used = absurd (cc (none_passes is_early (uses ds) (of_latest None called) (neither (list_any is_early (uses ds)) _ (selects_right ds none)).0 used))
  latest_fits (Some i) called is used =
      let there : is_none (width_of ds i.name called) ≡ false = none_passes (is_unknown ds) (uses ds) (of_latest (Some i) called) (neither (list_any (is_unknown ds) (uses ds)) _ (none_unknown ds none)).0 used in
      let typed : is_none (option_and_then (λ t. width_in t called) (instance_type ds i.name)) ≡ false = ap (λ (b : Bool). is_none (cond b (standard_width called) (option_and_then (λ t. width_in t called) (instance_type ds i.name)))) (sym is.1) ∙ there in
      let known = found ds i.name called typed in
      let k = instance_number ds i.name in
      (is.0, omega (arith, known.within, ap length (sym (widths_named ds i.name) ∙ fits.widths k is.0.instance), length-map (fields_of (shown_on g k)) width_of16))

  value_fits : (last : Option Inst) (v : PValue) → LastFits last → AreUsed (uses_of_value last v) → ValueFits c ds last v
  value_fits last (pvalue.Current offset bits) is used = tt
  value_fits last (pvalue.Latest called) is used = latest_fits last called is (used (of_latest last called) (inl refl))
  value_fits last (pvalue.Field r) is used = slot_is g ds fits.shown fits.widths (slot_of ds r) (field_stands ds none r (used (of_field r) (inl refl)))
  value_fits last (pvalue.Number n) is used = tt

  stmt_fits : (p : Parser) → Has ds (decl.Parser p) → (last : Option Inst) (s : PStmt) → Has p.statements s → LastFits last → AreUsed (uses_of_statement last s) → StmtFits c ds last s × LastFits (last_behind last s)
  stmt_fits p declared last (pstmt.Extract i) has is used =
      let fit = inst_fits p declared i has (used (of_extracted i) (inl refl)) in
      let h = extracted_header g ds fits.shown fits.widths none p declared i has in
      (fit, (fit, not_standard ds (none_twice ds none) i.name (is_there ds i.name (decl.Header h.0) h.1)))
  stmt_fits p declared last (pstmt.SetMetadata r v) has is used =
      let there = field_stands ds none r (used (of_field r) (inl refl)) in
      ((slot_is g ds fits.shown fits.widths (slot_of ds r) there, bits_named ds none r (used (of_field r) (inl refl)) ∙ bits_are g ds fits.shown fits.widths (slot_of ds r) there, value_fits last v is (λ u h. used u (inr h))), is)

  body_fits : (p : Parser) → Has ds (decl.Parser p) → (qs : List PStmt) (last : Option Inst) → ((s : PStmt) → Has qs s → Has p.statements s) → LastFits last → AreUsed (uses_of_statements last qs) → BodyFits c ds last qs × LastFits (last_of last qs)
  body_fits p declared [] last among is used = (tt, is)
  body_fits p declared (s ∷ qs) last among is used =
      let first = stmt_fits p declared last s (among s (inl refl)) is (λ u h. used u (has_left (uses_of_statement last s) (uses_of_statements (last_behind last s) qs) u h)) in
      let rest = body_fits p declared qs (last_behind last s) (λ z h. among z (inr h)) first.1 (λ u h. used u (has_right (uses_of_statement last s) (uses_of_statements (last_behind last s) qs) u h)) in
      ((first.0, rest.0), rest.1)

  -- selects

  values_fit : (last : Option Inst) (vs : List PValue) → LastFits last → AreUsed (flat_map (uses_of_value last) vs) → ValuesFit c ds last vs
  values_fit last [] is used = tt
  values_fit last (v ∷ vs) is used = (
    value_fits last v is (λ u h. used u (has_joined (uses_of_value last) (v ∷ vs) v u (inl refl) h)),
    values_fit last vs is (λ u h. let z = joined_has (uses_of_value last) vs u h in used u (has_joined (uses_of_value last) (v ∷ vs) z.0 u (inr z.1) z.2)),
  )

  cases_lead : (cases : List Case) → list_any is_error_case cases ≡ false → LeadToStates cases
  cases_lead [] right = tt
  cases_lead (y ∷ cases) right =
      let both = neither (is_error_target y.target) (list_any is_error_case cases) right in (leads y.target both.0, cases_lead cases both.1) where
        leads : (z : CaseTarget) → is_error_target z ≡ false → IsState z
        leads (case_target.State called) is = tt
        leads (case_target.ParseError called) is = absurd (cc is)

  end_fits : (words : ParserWords) (last : Option Inst) (end : Return) → SelectHas end → LastFits last → AreUsed (uses_of_return last end) → joins_too_much ds last end ≡ false → ends_in_error end ≡ false → EndFits c ds words last end
  end_fits words last (end_of.State called) some is used few right = tt
  end_fits words last (end_of.ParseError called) some is used few right = absurd (cc right)
  end_fits words last (end_of.Select vs cases) some is used few right =
      (some, values_fit last vs is (λ u h. used u (has_left (flat_map (uses_of_value last) vs) _ u h)), omega (arith, sum-map (value_bits ds last) vs, ltb-false 128 (sum_by (value_bits ds last) vs) few), cases_lead cases right)

  pub state_fits : (words : ParserWords) (p : Parser) → Has ds (decl.Parser p) → SelectHas p.end → StateFits c ds words p
  state_fits words p declared some =
      let used : AreUsed (uses_of (decl.Parser p)) = λ u h. has_joined uses_of ds (decl.Parser p) u declared h in
      let body = body_fits p declared p.statements None (λ s h. h) tt (λ u h. used u (has_left (uses_of_statements None p.statements) (uses_of_return (last_of None p.statements) p.end) u h)) in
      record {
        body = body.0;
        end = end_fits words (last_of None p.statements) p.end some body.1 (λ u h. used u (has_right (uses_of_statements None p.statements) (uses_of_return (last_of None p.statements) p.end) u h))
            (none_passes (state_joins_too_much ds) ds (decl.Parser p) (neither _ (list_any (state_joins_too_much ds) ds) (selects_right ds none)).1 declared)
            (none_passes declares_unsupported ds (decl.Parser p) (neither (list_any declares_unsupported ds) _ (all_supported ds none)).0 declared);
      }

  -- what a state extracted last
  pub last_fits : (p : Parser) → Has ds (decl.Parser p) → LastFits (last_of None p.statements)
  last_fits p declared =
      let used : AreUsed (uses_of (decl.Parser p)) = λ u h. has_joined uses_of ds (decl.Parser p) u declared h in
      (body_fits p declared p.statements None (λ s h. h) tt (λ u h. used u (has_left (uses_of_statements None p.statements) (uses_of_return (last_of None p.statements) p.end) u h))).1
