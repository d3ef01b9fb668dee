-- Arguments of which nothing is evaluated: targets, members of enumerations, literals; and what is known of an index.
use Rattle.std.proofs.Common.{◌≡◌, ℕ, ◌%◌, ◌^◌, ◌<◌, nat_le, nat_eq, ◌||◌, ◌&&◌, Bool, true, false, cond, Option, Some, None, IfSome, List, [], refl, sym, ap, ◌∙◌, subst}
use Rattle.std.specs.Prelude.{option_map, option_and_then, codes}
use Rattle.std.specs.Str.{bytes_eq}
use Rattle.std.proofs.lemmas.Bool.{leb-false, eqb-true}
use Rattle.std.proofs.lemmas.Slice.Eq.{bytes_eq-Decides}
use Rattle.std.proofs.Math.Nat.{mod-eq_of_lt}
use Rattle.p416_syntax.specs.Tree.{Exp16, literal, truth, error, name, member, index, slice, call, lookahead, cast, unary, binary, choice, parenthesized, no_arguments, argument, listed}
use Rattle.p416_syntax.specs.Names.{Name}
use Rattle.p416_syntax.specs.Kinds.{Kind, Enumeration, bits, unsized, boolean, error_code, header, stack, struct, packet_in, packet_out, errors, enumeration, one_of, table, applied, object, items, nothing, unknown, is_bits, is_unsized}
use Rattle.p416_syntax.specs.Scopes.{Layout, FieldKind, fields_in, Scope}
use Rattle.p416_syntax.specs.BuiltIn.{standard_name, standard_layout, standard}
use Rattle.p416_syntax.specs.Calls.{Place, written_bits, written, member_place, literal_of, index_place}
use Rattle.p416_syntax.specs.Expressions.{kind_of, known_kind, field_kind_in, member_kind}
use Rattle.p416_syntax.specs.Types.{takes}
use Rattle.p416_syntax.specs.Writes.{is_written_place}
use Rattle.p416_syntax.specs.Literals.{overflows}
use Rattle.p416_syntax.specs.Uses.{an_expression}
use Rattle.p416_syntax.specs.Breaks.{BreaksNone, program_rules}
use Rattle.p416_syntax.specs.Declarations.{layouts_of}
use Rattle.v1_core.specs.Values.{Value, a_symbol, number_in, to_member, Slice}
use Rattle.v1_core.specs.Frames as sem
use Rattle.v1_core.specs.Frames.{stepped, read}
use Rattle.v1_core.specs.Surroundings as meaning
use Rattle.v1_core.specs.Surroundings.{named}
use Rattle.v1_core.specs.Numbered.{InScope}
use Rattle.v1_core.specs.Expressions as sem_expressions
use Rattle.v1_core.specs.Expressions.{Referred, reference_of, member_reference, value_of, member_value, literal_number}
use Rattle.v1_core.specs.Calls as calls
use Rattle.v1_core.specs.Calls.{argument_at, by_reference, by_value}
use Rattle.v1_core.specs.Cells.{Cells}
use Rattle.v1_ready_forms.specs.Named.{NamedSeat, seats_in}
use Rattle.v1_ready_forms.specs.Spots.{spot_behind}
use Rattle.v1_ready_laws.specs.Kinds.{HasWidth}
use Rattle.v1_ready_laws.specs.Rules.{NamesSeated}
use Rattle.v1_ready_blocks.specs.declared.places.Target.{Target}
use Rattle.v1_ready_blocks.specs.Tests.{World}
use Rattle.v1_place_laws.specs.Places.{Meant, behind_meant, member_meant, meant_by}
use Rattle.v1_deed_laws.specs.Externs.{IsTarget}
use Rattle.v1_ready_statements.specs.Around.{Around}
use Rattle.v1_ready_statements.specs.Targets.{target_of, target_given, ready_slice}
use Rattle.v1_ready_statements.specs.Called.{member_word, number_given, dropping_slot}
use Rattle.v1_value_laws.specs.Kinds.{Fine}
use Rattle.v1_value_laws.specs.Classes.{IsNumber}
use Rattle.v1_call_laws.specs.Telling.{IsBelow, IsValueOf}
use Rattle.v1_call_laws.specs.Calling.{StandardIsOwn, IsMemberOf}
use Rattle.v1_call_laws.proofs.Arguments.{aside, Gives, aside_given}
use Rattle.v1_call_laws.proofs.Targets.{IsAim, aim, Targeted, targeted, whole_behind}

-- numbers of 32 bits

number_small : (v : Value) (width : ℕ) → IsNumber v → HasWidth width v → IsBelow v → number_in v < 2 ^ width
number_small v width is has below =
    let wide : is.0 ≡ width = subst (HasWidth width) is.1.1 has in
    let less : is.1.0 < 2 ^ is.0 = subst IsBelow is.1.1 below in
    subst (λ (x : Value). number_in x < 2 ^ width) (sym is.1.1) (subst (λ (k : ℕ). is.1.0 < 2 ^ k) wide less)

pub index_small : (e : Exp16) (k : Kind) (v : Value) → takes index_place e k ≡ true → IsValueOf index_place k v → number_in v < 2 ^ 32
index_small e (bits w) v taken h = number_small v 32 h.class (subst (λ (k : ℕ). HasWidth k v) (sym (eqb-true 32 w (same (nat_eq 32 w) taken))) h.width) h.below where
  same : (t : Bool) → (t || (true && false)) ≡ true → t ≡ true
  same true is = refl
  same false is = absurd (cc is)
index_small e unsized v taken h = number_small v 32 h.class h.width h.below
index_small e boolean v taken h = absurd (cc taken)
index_small e error_code v taken h = absurd (cc taken)
index_small e (header type) v taken h = absurd (cc taken)
index_small e (stack type size) v taken h = absurd (cc taken)
index_small e (struct type) v taken h = absurd (cc taken)
index_small e packet_in v taken h = absurd (cc taken)
index_small e packet_out v taken h = absurd (cc taken)
index_small e errors v taken h = absurd (cc taken)
index_small e (enumeration enum) v taken h = absurd (cc taken)
index_small e (one_of enum) v taken h = absurd (cc taken)
index_small e table v taken h = absurd (cc taken)
index_small e applied v taken h = absurd (cc taken)
index_small e (object obj) v taken h = absurd (cc taken)
index_small e items v taken h = absurd (cc taken)
index_small e nothing v taken h = absurd (cc taken)
index_small e unknown v taken h = absurd (cc taken)

-- a struct of standard metadata

standard_only : (e : Exp16) (k : Kind) → takes (written standard) e k ≡ true → k ≡ standard
standard_only e (bits v) taken = absurd (cc taken)
standard_only e unsized taken = absurd (cc taken)
standard_only e boolean taken = absurd (cc taken)
standard_only e error_code taken = absurd (cc taken)
standard_only e (header type) taken = absurd (cc taken)
standard_only e (stack type many) taken = absurd (cc taken)
standard_only e (struct type) taken = ap struct (sym ((bytes_eq-Decides standard_name type).0 (same (bytes_eq standard_name type) taken))) where
  same : (t : Bool) → (t || (false && false)) ≡ true → t ≡ true
  same true is = refl
  same false is = absurd (cc is)
standard_only e packet_in taken = absurd (cc taken)
standard_only e packet_out taken = absurd (cc taken)
standard_only e errors taken = absurd (cc taken)
standard_only e (enumeration enum) taken = absurd (cc taken)
standard_only e (one_of enum) taken = absurd (cc taken)
standard_only e table taken = absurd (cc taken)
standard_only e applied taken = absurd (cc taken)
standard_only e (object obj) taken = absurd (cc taken)
standard_only e items taken = absurd (cc taken)
standard_only e nothing taken = absurd (cc taken)
standard_only e unknown taken = absurd (cc taken)

some_meant : (o : Option Meant) (to : Target) → option_and_then target_of o ≡ Some to → (x : Meant) × (o ≡ Some x)
some_meant None to is = absurd (cc is)
some_meant (Some x) to is = (x, refl)

at_some : {A : Type 0} (B : A → Type 0) (o : Option A) (x : A) → o ≡ Some x → IfSome o B → B x
at_some {A = A} B o x is h = subst (λ (p : Option A). IfSome p B) is h

module _ (P : Cells → Type 0) (b : Around) (w : meaning.World) (z : World) (s : Scope) (who : InScope) (accepted : BreaksNone b.syntax program_rules) (layouts : s.layouts ≡ layouts_of b.syntax.decls) (seated : NamesSeated s (seats_in b.syntax w.around.roots who)) (fine : Fine s) where
  abbrev seats : List NamedSeat
  seats = seats_in b.syntax w.around.roots who

  -- an l-value at a place that is written
  pub referred_is : (p : Place) (e : Exp16) (x : Meant) (m : sem.Moment) → is_written_place p ≡ true → meant_by s seats e ≡ Some x → argument_at w s p e m ≡ by_reference (reference_of w.around s e m)
  referred_is p (literal n) x m written_is means = ap (λ (t : Bool). cond t (by_reference (reference_of w.around s (literal n) m)) (by_value (value_of w s p (literal n) m))) written_is
  referred_is p (truth holds) x m written_is means = ap (λ (t : Bool). cond t (by_reference (reference_of w.around s (truth holds) m)) (by_value (value_of w s p (truth holds) m))) written_is
  referred_is p error x m written_is means = ap (λ (t : Bool). cond t (by_reference (reference_of w.around s error m)) (by_value (value_of w s p error m))) written_is
  referred_is p (name text) x m written_is means = ap (λ (t : Bool). cond t (by_reference (reference_of w.around s (name text) m)) (by_value (value_of w s p (name text) m))) written_is
  referred_is p (member e word) x m written_is means = ap (λ (t : Bool). cond t (by_reference (reference_of w.around s (member e word) m)) (by_value (value_of w s p (member e word) m))) written_is
  referred_is p (index e at) x m written_is means = ap (λ (t : Bool). cond t (by_reference (reference_of w.around s (index e at) m)) (by_value (value_of w s p (index e at) m))) written_is
  referred_is p (slice e high low) x m written_is means = ap (λ (t : Bool). cond t (by_reference (reference_of w.around s (slice e high low) m)) (by_value (value_of w s p (slice e high low) m))) written_is
  referred_is p (call g other) x m written_is means = ap (λ (t : Bool). cond t (by_reference (reference_of w.around s (call g other) m)) (by_value (value_of w s p (call g other) m))) written_is
  referred_is p (lookahead e to other) x m written_is means = ap (λ (t : Bool). cond t (by_reference (reference_of w.around s (lookahead e to other) m)) (by_value (value_of w s p (lookahead e to other) m))) written_is
  referred_is p (cast to e) x m written_is means = ap (λ (t : Bool). cond t (by_reference (reference_of w.around s (cast to e) m)) (by_value (value_of w s p (cast to e) m))) written_is
  referred_is p (unary operator e) x m written_is means = ap (λ (t : Bool). cond t (by_reference (reference_of w.around s (unary operator e) m)) (by_value (value_of w s p (unary operator e) m))) written_is
  referred_is p (binary operator a d) x m written_is means = ap (λ (t : Bool). cond t (by_reference (reference_of w.around s (binary operator a d) m)) (by_value (value_of w s p (binary operator a d) m))) written_is
  referred_is p (choice c a d) x m written_is means = ap (λ (t : Bool). cond t (by_reference (reference_of w.around s (choice c a d) m)) (by_value (value_of w s p (choice c a d) m))) written_is
  referred_is p (parenthesized e) x m written_is means = ap (λ (t : Bool). cond t (by_reference (reference_of w.around s (parenthesized e) m)) (by_value (value_of w s p (parenthesized e) m))) written_is
  referred_is p no_arguments x m written_is means = ap (λ (t : Bool). cond t (by_reference (reference_of w.around s no_arguments m)) (by_value (value_of w s p no_arguments m))) written_is
  referred_is p (argument before last) x m written_is means = ap (λ (t : Bool). cond t (by_reference (reference_of w.around s (argument before last) m)) (by_value (value_of w s p (argument before last) m))) written_is
  referred_is p (listed es) x m written_is means = absurd (cc means)

  pub target_gives : (e : Exp16) (to : Target) → takes written_bits e (kind_of s e) ≡ true → target_given s seats e ≡ Some to → Gives P b w z s who written_bits e [] aside (λ x. IsTarget b.syntax who x.target to)
  target_gives e to taken given = aside_given P b w z s who written_bits e (λ x. IsTarget b.syntax who x.target to) (λ m k h runs.
      let means = some_meant (meant_by s seats e) to given in
      let is : IsAim P b w s who accepted layouts seated fine e to m = aim P b w s who accepted layouts seated fine e to m k taken given h runs in
      subst (λ (x : calls.Given × sem.Moment). (x.1 ≡ m) × IsTarget b.syntax who x.0.target to) (sym (referred_is written_bits e means.0 m refl means.1)) (is.same, is.target))

  pub member_gives : (enum : Enumeration) (e : Exp16) → IsMemberOf s enum e → Gives P b w z s who (member_place enum) e [] aside (λ x. x.value ≡ a_symbol (member_word e))
  member_gives enum e is = aside_given P b w z s who (member_place enum) e (λ x. x.value ≡ a_symbol (member_word e)) (λ m k h runs.
      subst (λ (f : Exp16). ((argument_at w s (member_place enum) f m).1 ≡ m) × ((argument_at w s (member_place enum) f m).0.value ≡ a_symbol (member_word f))) (sym is.is)
      (subst (λ (x : sem_expressions.Valued). (x.moment ≡ m) × (x.value ≡ a_symbol is.word)) (sym (ap (λ (j : Kind). member_value j is.word (record { value = read m.frame (named w.around m.frame is.text); moment = m })) is.kind)) (refl, refl)))

  pub literal_gives : (v : ℕ) (e : Exp16) → takes (literal_of (bits v)) e (kind_of s e) ≡ true → overflows (an_expression s (literal_of (bits v)) e) ≡ false → Gives P b w z s who (literal_of (bits v)) e [] aside (λ x. number_in x.value ≡ number_given e)
  literal_gives v (literal n) taken fits = aside_given P b w z s who (literal_of (bits v)) (literal n) (λ x. number_in x.value ≡ number_given (literal n)) (λ m k h runs. (refl, same n.width fits)) where
    cut : (width : ℕ) → nat_le (2 ^ width) n.value ≡ false → n.value % 2 ^ width ≡ n.value
    cut width less = mod-eq_of_lt (leb-false (2 ^ width) n.value less)

    same : (o : Option ℕ) → overflows (an_expression s (literal_of (bits v)) (literal (record { width = o; value = n.value }))) ≡ false → number_in (literal_number (literal_of (bits v)) (record { width = o; value = n.value })) ≡ n.value
    same None less = cut v less
    same (Some width) less = cut width less
  literal_gives v (truth holds) taken fits = absurd (cc taken)
  literal_gives v error taken fits = absurd (cc taken)
  literal_gives v (name text) taken fits = absurd (cc taken)
  literal_gives v (member e word) taken fits = absurd (cc taken)
  literal_gives v (index e at) taken fits = absurd (cc taken)
  literal_gives v (slice e high low) taken fits = absurd (cc taken)
  literal_gives v (call g other) taken fits = absurd (cc taken)
  literal_gives v (lookahead e to other) taken fits = absurd (cc taken)
  literal_gives v (cast to e) taken fits = absurd (cc taken)
  literal_gives v (unary operator e) taken fits = absurd (cc taken)
  literal_gives v (binary operator a d) taken fits = absurd (cc taken)
  literal_gives v (choice c a d) taken fits = absurd (cc taken)
  literal_gives v (parenthesized e) taken fits = absurd (cc taken)
  literal_gives v no_arguments taken fits = absurd (cc taken)
  literal_gives v (argument before last) taken fits = absurd (cc taken)
  literal_gives v (listed es) taken fits = absurd (cc taken)

  -- the port of standard metadata that drops
  pub drop_gives : (e : Exp16) (slot : ℕ) → StandardIsOwn b.syntax → takes (written standard) e (kind_of s e) ≡ true → dropping_slot s seats e ≡ Some slot → Gives P b w z s who (written standard) e [] aside (λ x. (to : Target) × (IsTarget b.syntax who (stepped x.target (to_member (codes "egress_spec"))) to × (to.slice ≡ None) × (to.slot ≡ slot)))
  drop_gives e slot own taken given = by (option_and_then target_of (behind_meant (spot_behind s.layouts (to_member word)) (meant_by s seats e))) refl given where
    word : Name
    word = codes "egress_spec"

    kind : kind_of s e ≡ standard
    kind = standard_only e (kind_of s e) taken

    fields : fields_in s.layouts standard_name ≡ standard_layout.fields
    fields = ap (λ (l : List Layout). fields_in l standard_name) layouts ∙ own

    of_bits : kind_of s (member e word) ≡ bits 9
    of_bits = ap (λ (j : Kind). known_kind (member_kind s.layouts j word)) kind ∙ ap (λ (fs : List FieldKind). known_kind (field_kind_in fs word)) fields

    leads : (o : Option Meant) → member_meant s.layouts (kind_of s e) word o ≡ behind_meant (spot_behind s.layouts (to_member word)) o
    leads o = ap (λ (j : Kind). member_meant s.layouts j word o) kind

    refers : (m : sem.Moment) → reference_of w.around s (member e word) m ≡ record { reference = stepped (reference_of w.around s e m).reference (to_member word); moment = (reference_of w.around s e m).moment }
    refers m = ap (λ (j : Kind). member_reference j word (reference_of w.around s e m)) kind

    uncut : (o : Option Meant) (x : Meant) → behind_meant (spot_behind s.layouts (to_member word)) o ≡ Some x → x.slice ≡ None
    uncut o x is = at_some (λ (y : Meant). y.slice ≡ None) (behind_meant (spot_behind s.layouts (to_member word)) o) x is (whole_behind (spot_behind s.layouts (to_member word)) o)

    first_meant : (o : Option Meant) (to : Target) → option_and_then target_of (behind_meant (spot_behind s.layouts (to_member word)) o) ≡ Some to → (x : Meant) × (o ≡ Some x)
    first_meant None to is = absurd (cc is)
    first_meant (Some x) to is = (x, refl)

    no_slice : (to : Target) → option_and_then target_of (behind_meant (spot_behind s.layouts (to_member word)) (meant_by s seats e)) ≡ Some to → to.slice ≡ None
    no_slice to is = cut (some_meant (behind_meant (spot_behind s.layouts (to_member word)) (meant_by s seats e)) to is) where
      cut : (x : Meant) × (behind_meant (spot_behind s.layouts (to_member word)) (meant_by s seats e) ≡ Some x) → to.slice ≡ None
      cut (x, means) =
          let told : Targeted x to = targeted x to (subst (λ (q : Option Meant). option_and_then target_of q ≡ Some to) means is) in
          ap (λ (t : Target). t.slice) told.same ∙ ap (λ (q : Option Slice). option_map ready_slice q) (uncut (meant_by s seats e) x means)

    by : (o : Option Target) → option_and_then target_of (behind_meant (spot_behind s.layouts (to_member word)) (meant_by s seats e)) ≡ o → option_map (λ (t : Target). t.slot) o ≡ Some slot → Gives P b w z s who (written standard) e [] aside (λ x. (to : Target) × (IsTarget b.syntax who (stepped x.target (to_member word)) to × (to.slice ≡ None) × (to.slot ≡ slot)))
    by None is same = absurd (cc same)
    by (Some to) is same = aside_given P b w z s who (written standard) e (λ x. (t : Target) × (IsTarget b.syntax who (stepped x.target (to_member word)) t × (t.slice ≡ None) × (t.slot ≡ slot))) (λ m k h runs.
        let means = first_meant (meant_by s seats e) to is in
        let found : IsAim P b w s who accepted layouts seated fine (member e word) to m = aim P b w s who accepted layouts seated fine (member e word) to m k (ap (λ (j : Kind). is_bits j || is_unsized j) of_bits) (ap (option_and_then target_of) (leads (meant_by s seats e)) ∙ is) h runs in
        let slot_is : to.slot ≡ slot = cc same in
        subst (λ (x : calls.Given × sem.Moment). (x.1 ≡ m) × ((t : Target) × (IsTarget b.syntax who (stepped x.0.target (to_member word)) t × (t.slice ≡ None) × (t.slot ≡ slot)))) (sym (referred_is (written standard) e means.0 m refl means.1))
        (ap (λ (r : Referred). r.moment) (sym (refers m)) ∙ found.same, (to, (subst (λ (r : Referred). IsTarget b.syntax who r.reference to) (refers m) found.target, no_slice to is, slot_is))))
