-- Of an accepted program the bound on states is never met (C9; a header is an octet or more by C2, C5, C14 and C25).
use Rattle.std.proofs.Common.{◌≡◌, ◌⊎◌, inl, inr, ℕ, zero, suc, ◌%◌, ◌≤◌, Bool, true, false, ◌||◌, ◌&&◌, not, nat_eq, Option, Some, None, List, [], ◌∷◌, length, fold, sum, slice_get, refl, sym, ap, ◌∙◌, subst, arith}
use Rattle.std.specs.Prelude.{flat_map, option_and_then, is_some, codes}
use Rattle.std.specs.List.{list_any}
use Rattle.std.specs.Option.{option_map_or}
use Rattle.std.specs.Str.{bytes_eq}
use Rattle.std.proofs.lemmas.Bool.Decides.{eqb_tells}
use Rattle.std.proofs.lemmas.List.Quantifiers.{position-Some}
use Rattle.std.proofs.lemmas.List.Sums.{sum-map}
use Rattle.p414_syntax.specs.declared.headers.Header.{Header}
use Rattle.p414_syntax.specs.declared.headers.Initial.{Initial}
use Rattle.p414_syntax.specs.declared.parts.Inst.{Inst}
use Rattle.p414_syntax.specs.declared.parsers.PStmt.{PStmt}
use Rattle.p414_syntax.specs.declared.parsers.PStmt.TheVariants as pstmt
use Rattle.p414_syntax.specs.declared.parsers.Parser.{Parser}
use Rattle.p414_syntax.specs.declared.syntax.Decl.{Decl}
use Rattle.p414_syntax.specs.declared.syntax.Decl.TheVariants as decl
use Rattle.p414_syntax.specs.declared.syntax.Sort.TheVariants as sort
use Rattle.p414_syntax.specs.Attributes.{initials_of}
use Rattle.p414_syntax.specs.Views.{HeaderTypeTree}
use Rattle.p414_syntax.specs.Names.{Name, names_in, declared_in, number_of, is_declared}
use Rattle.p414_syntax.specs.Breaks.{BreaksNone, program_rules}
use Rattle.p414_syntax.specs.Fields.{header_type_in, types, type_of, type_name_in, instance_of, is_header, field_bits, type_bits, is_rest_field, has_rest}
use Rattle.p414_syntax.specs.Targets.{statements_in, extracted_in, extracts, is_no_header}
use Rattle.p414_syntax.specs.Unknown.{is_unknown}
use Rattle.p414_syntax.specs.Unsupported.{is_unsupported_field, declares_unsupported, has_unsupported}
use Rattle.p414_syntax.specs.Uses.{of_sort, uses_of, uses}
use Rattle.p414_syntax.specs.Widths.{is_unaligned, is_unaligned_header}
use Rattle.p414_sem.specs.State.{State}
use Rattle.p414_sem.specs.Packing.{type_widths, widths_of}
use Rattle.p414_sem.specs.Slots.{field_target}
use Rattle.p414_sem.specs.Parsing.{with_initial, field_named, initialized, begun, Step, to, ended, state_named, step_from, followed, parse_from, most_states, parsed}
use Rattle.lower_laws_states.specs.Bound.{StepEnds, EndsWithin, NeverStopped}
use Rattle.lower_laws_states.specs.Expansions.{Has}
use Rattle.lower_laws_states.proofs.Members.{neither, of_not, not_true, none_passes, each_has, has_joined, has_at, picked_has, none_past}
use Rattle.lower_laws_states.proofs.Rules.{none_unknown, layouts_right, none_idle, targets_right, all_supported}
use Rattle.lower_laws_states.proofs.Declared.{numbered_has, numbered_so, header_there}
use Rattle.lower_laws_states.proofs.Written.{any_has}
use Rattle.lower_laws_states.proofs.Accepted.{state_has}
use Rattle.lower_laws_states.proofs.Smaller.{WideStmt, WideBody, unparsed_kept}
use Rattle.lower_laws_states.proofs.Enough.{most_enough}

-- header types

types_long : (ds : List Decl) → length (names_in sort.HeaderType ds) ≡ length (types ds)
types_long [] = refl
types_long (decl.HeaderType x ∷ ds) = ap suc (types_long ds)
types_long (_ ∷ ds) = types_long ds

type_there : (ds : List Decl) (name : Name) → is_declared sort.HeaderType ds name ≡ true → (t : HeaderTypeTree) × (type_of ds name ≡ Some t)
type_there ds name there = by (number_of sort.HeaderType ds name) refl there where
  at : (k : ℕ) → number_of sort.HeaderType ds name ≡ Some k → (o : Option HeaderTypeTree) → slice_get (types ds) k ≡ o → (t : HeaderTypeTree) × (o ≡ Some t)
  at k e (Some t) is = (t, refl)
  at k e None is = absurd (omega (arith, none_past (types ds) k is, types_long ds, (position-Some (bytes_eq name) (names_in sort.HeaderType ds) k [] e).0))

  by : (o : Option ℕ) → number_of sort.HeaderType ds name ≡ o → is_some o ≡ true → (t : HeaderTypeTree) × (option_and_then (slice_get (types ds)) o ≡ Some t)
  by None e there = absurd (cc there)
  by (Some k) e there = at k e (slice_get (types ds) k) refl

declared_type : (d : Decl) (t : HeaderTypeTree) → header_type_in d ≡ Some t → d ≡ decl.HeaderType t
declared_type (decl.HeaderType x) t e = ap decl.HeaderType (cc e)
declared_type _ t e = absurd (cc e)

pub type_has : (ds : List Decl) (name : Name) (t : HeaderTypeTree) → type_of ds name ≡ Some t → Has ds (decl.HeaderType t)
type_has ds name t e = by (number_of sort.HeaderType ds name) e where
  by : (o : Option ℕ) → option_and_then (slice_get (types ds)) o ≡ Some t → Has ds (decl.HeaderType t)
  by None e = absurd (cc e)
  by (Some k) e = let d = picked_has header_type_in ds t (has_at (types ds) k t e) in subst (Has ds) (declared_type d.0 t d.2) d.1

-- no field has the width `*` (C25)
pub no_rest : (ds : List Decl) → has_unsupported ds ≡ false → (t : HeaderTypeTree) → Has ds (decl.HeaderType t) → has_rest t ≡ false
no_rest ds right t h = not_true (has_rest t) (λ e.
    let one = any_has is_rest_field t.fields e in
    let judged = none_passes declares_unsupported ds (decl.HeaderType t) (neither (list_any declares_unsupported ds) _ right).0 h in
    let field = none_passes is_unsupported_field t.fields one.0 (neither _ (list_any is_unsupported_field t.fields) judged).1 one.1 in
    absurd (cc (one.2, (neither (is_rest_field one.0) _ field).0)))

-- whole octets, and at least one
octet_or_more : (n : ℕ) → nat_eq n 0 || not (nat_eq (n % 8) 0) ≡ false → 8 ≤ n
octet_or_more n right =
    let parts = neither (nat_eq n 0) (not (nat_eq (n % 8) 0)) right in
    by (eqb_tells n 0) (eqb_tells (n % 8) 0) parts.0 (of_not (nat_eq (n % 8) 0) parts.1)
  where
    by : ((nat_eq n 0 ≡ true) × (n ≡ 0)) ⊎ ((nat_eq n 0 ≡ false) × (n ≡ 0 → ⊥)) → ((nat_eq (n % 8) 0 ≡ true) × (n % 8 ≡ 0)) ⊎ ((nat_eq (n % 8) 0 ≡ false) × (n % 8 ≡ 0 → ⊥)) → nat_eq n 0 ≡ false → nat_eq (n % 8) 0 ≡ true → 8 ≤ n
    by (inl zero_is) b e f = absurd (cc (zero_is.0, e))
    by (inr some) (inr rest) e f = absurd (cc (rest.0, f))
    by (inr some) (inl whole) e f = grind (arith, some.1, whole.1)

module _ (ds : List Decl) (none : BreaksNone ds program_rules) where
  header_wide : (i : Inst) (x : Header) → instance_of ds i.name ≡ Some (decl.Header x) → 8 ≤ sum (widths_of ds i.name)
  header_wide i x e =
      let declared = numbered_has ds sort.Instance _ (decl.Header x) (numbered_so ds i.name (decl.Header x) e) in
      let used : Has (uses ds) (of_sort sort.HeaderType x.header_type) = has_joined uses_of ds (decl.Header x) (of_sort sort.HeaderType x.header_type) declared (inl refl) in
      let known = of_not _ (none_passes (is_unknown ds) (uses ds) (of_sort sort.HeaderType x.header_type) (neither (list_any (is_unknown ds) (uses ds)) _ (none_unknown ds none)).0 used) in
      let t = type_there ds x.header_type known in
      let widths : widths_of ds i.name ≡ type_widths t.0 = ap (λ (o : Option Decl). option_map_or type_widths (option_and_then (type_of ds) (option_and_then type_name_in o)) []) e ∙ ap (λ (o : Option HeaderTypeTree). option_map_or type_widths o []) t.1 in
      let judged : is_unaligned t.0 ≡ false = sym (ap (λ (o : Option HeaderTypeTree). option_map_or is_unaligned o false) t.1) ∙ none_passes (is_unaligned_header ds) ds (decl.Header x) (neither (list_any (is_unaligned_header ds) ds) _ (layouts_right ds none)).0 declared in
      let wide = octet_or_more (type_bits t.0) (without (has_rest t.0) _ (no_rest ds (all_supported ds none) t.0 (type_has ds x.header_type t.0 t.1)) judged) in
      omega (arith, wide, ap sum widths, sum-map field_bits t.0.fields)
    where
      without : (a b : Bool) → a ≡ false → not a && b ≡ false → b ≡ false
      without true b e f = absurd (cc e)
      without false b e f = f

  wide : (called : Name) (p : Parser) → state_named ds called ≡ Some p → WideBody ds p.statements
  wide called p e = each_has (WideStmt ds) p.statements one where
    one : (q : PStmt) → Has p.statements q → WideStmt ds q
    one (pstmt.SetMetadata r v) h = tt
    one (pstmt.Extract i) h =
        let there = has_joined statements_in ds (decl.Parser p) (pstmt.Extract i) (state_has ds called p e) h in
        let taken : Has (extracts ds) i = has_joined extracted_in (flat_map statements_in ds) (pstmt.Extract i) i there (inl refl) in
        let x = header_there ds i.name (of_not (is_header ds i.name) (none_passes (is_no_header ds) (extracts ds) i (neither (list_any (is_no_header ds) (extracts ds)) _ (targets_right ds none)).0 taken)) in
        header_wide i x.0 x.1

-- a walk that ends ends alike under any greater bound

stays : (ds : List Decl) (left more : ℕ) → left ≤ more → (called : Name) (s : State) → EndsWithin ds left called s → parse_from ds more called s ≡ parse_from ds left called s
stays ds zero zero le called s ends = refl
stays ds zero (suc more) le called s ends = rw ends refl
stays ds (suc left) zero le called s ends = absurd (omega (arith, le))
stays ds (suc left) (suc more) le called s ends = by (step_from ds called s) ends (stays ds left more (omega (arith, le))) where
  by : (x : Step) → StepEnds (EndsWithin ds left) x → ((called : Name) (s : State) → EndsWithin ds left called s → parse_from ds more called s ≡ parse_from ds left called s) → followed (parse_from ds more) x ≡ followed (parse_from ds left) x
  by (to other t) ends rest = rest other t ends
  by (ended end t) ends rest = refl

-- as parsing begins no octet is taken

initial_kept : (ds : List Decl) (name : Name) (initials : List Initial) (s : State) → (fold (with_initial ds name) s initials).unparsed ≡ s.unparsed
initial_kept ds name [] s = refl
initial_kept ds name (i ∷ initials) s = initial_kept ds name initials (with_initial ds name s i) ∙ unparsed_kept s (field_target ds (field_named name i.field)).slot _

initialized_kept : (ds xs : List Decl) (s : State) → (fold (initialized ds) s xs).unparsed ≡ s.unparsed
initialized_kept ds [] s = refl
initialized_kept ds (decl.Metadata x ∷ xs) s = initialized_kept ds xs _ ∙ initial_kept ds x.name (initials_of x.initials) s
initialized_kept ds (_ ∷ xs) s = initialized_kept ds xs s

pub begun_kept : (ds : List Decl) (s : State) → (begun ds s).unparsed ≡ s.unparsed
begun_kept ds s = initialized_kept ds (declared_in sort.Instance ds) _

pub never_stopped : (ds : List Decl) → BreaksNone ds program_rules → NeverStopped ds
unfolding parsed
never_stopped ds none s left le =
    stays ds (most_states ds s) left le (codes "start") (begun ds s)
    (most_enough ds (none_idle ds none) (wide ds none) (codes "start") (begun ds s) s (ap length (begun_kept ds s)))
