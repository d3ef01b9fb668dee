-- The numbers of an expanded primitive fit, its targets have the bits of their fields, and what it hashes, preserves and asks for
-- stands in the text (C13, C27).
use Rattle.std.proofs.Common.{◌≡◌, inl, ℕ, zero, suc, ◌≤◌, ◌+◌, ◌==◌, Bool, true, false, cond, ◌||◌, not, Option, Some, None, List, [], ◌∷◌, length, slice_get, refl, sym, subst, arith, ⊎_elim}
use Rattle.std.specs.Prelude.{codes, nat_lt, is_none}
use Rattle.std.specs.List.{AllByRecursion}
use Rattle.std.specs.Str.{bytes_eq}
use Rattle.std.proofs.lemmas.Bool.{cases_lt, ltb-false}
use Rattle.std.proofs.lemmas.List.{get_or_past}
use Rattle.std.proofs.lemmas.Option.{slice_get-get_or}
use Rattle.p414_syntax.specs.declared.parts.Number.{Number}
use Rattle.p414_syntax.specs.declared.syntax.Decl.{Decl}
use Rattle.p414_syntax.specs.declared.place.ArgumentPlace.{ArgumentPlace}
use Rattle.p414_syntax.specs.declared.place.ArgumentPlace.TheVariants as place
use Rattle.p414_syntax.specs.Names.{Name}
use Rattle.p414_syntax.specs.Primitives.{places_of, hash}
use Rattle.p414_syntax.specs.Breaks.{BreaksNone, program_rules}
use Rattle.p414_syntax.specs.Arguments.{Argument, number_argument, field_argument, parameter_argument, name_argument, Invocation, placed, placed_argument, placed_arguments}
use Rattle.p414_syntax.specs.Calls.{optional_count, is_wrong_call, is_element_count, takes}
use Rattle.p414_syntax.specs.Expansion.{list_number}
use Rattle.p414_syntax.specs.Preserved.{list_of}
use Rattle.p414_sem.specs.Calculations.{calculation_named}
use Rattle.p414_sem.specs.Expanded.{Expanded}
use Rattle.p414_sem.specs.Operations.{Primitive, argument_at, name_in_argument, source, target, primitive_of, list_at, element_count}
use Rattle.lower_laws_states.specs.Standing.{TargetStands, PrimitiveStands}
use Rattle.lower_laws_states.specs.Expansions.{IsPrimitiveOf, IsWritten}
use Rattle.lower_laws_states.proofs.Members.{neither, has_each, has_at, has_joined}
use Rattle.lower_laws_states.proofs.Rules.{none_twice, parameters_right}
use Rattle.lower_laws_states.proofs.Written.{IsJudged, judged, taken, wanted_so, written_so}
use Rattle.lower_laws_states.proofs.Placed.{both}
use Rattle.lower_laws_actions.specs.Fits.{IsSmall, IsNatural}
use Rattle.lower_laws_premises.specs.Literals.{IsFitting}
use Rattle.lower_laws_premises.specs.Counts.{HasBits, IsHashed, IsPreserved, PrimitiveCounts}
use Rattle.lower_laws_premises.proofs.Sources.{source_small, source_natural}
use Rattle.lower_laws_premises.proofs.Bits.{target_bits}

-- an argument that is there, at its place
judged_at : (ds : List Decl) (ps : List ArgumentPlace) (xs : List Argument) (k : ℕ) (p : ArgumentPlace) (a : Argument) → AllByRecursion (λ a. takes ds a.wanted a.argument ≡ true) (placed ps xs) → AllByRecursion (IsWritten ds) (placed ps xs) → slice_get ps k ≡ Some p → slice_get xs k ≡ Some a → IsJudged ds p a
judged_at ds [] xs k p a each written e f = absurd (cc e)
judged_at ds (q ∷ ps) [] k p a each written e f = absurd (cc f)
judged_at ds (q ∷ ps) (x ∷ xs) zero p a each written e f =
    let q_is : q ≡ p = cc e in
    let x_is : x ≡ a = cc f in
    subst (λ r. IsJudged ds r a) q_is (subst (λ (y : Argument). IsJudged ds q y) x_is (record { takes_it = each.0; written = written.0 }))
judged_at ds (q ∷ ps) (x ∷ xs) (suc k) p a each written e f = judged_at ds ps xs k p a each.1 written.1 e f

few_elements : (n : Number) → is_element_count n ≡ true → n.literal.value ≤ 256
few_elements n e = ltb-false 256 n.literal.value (neither (nat_lt n.literal.value 1) (nat_lt 256 n.literal.value) (none _ (both (is_none n.sign) _ e))).1 where
  none : (b : Bool) → not b ≡ true → b ≡ false
  none true e = absurd (cc e)
  none false e = refl

pub first_of : (a b : Bool) → a ≡ true → a || b ≡ true
first_of true b e = refl
first_of false b e = absurd (cc e)

pub second_of : (a b : Bool) → b ≡ true → a || b ≡ true
second_of true b e = refl
second_of false b e = e

module _ (ds : List Decl) (none : BreaksNone ds program_rules) (x : Expanded) (count : ℕ) (i : Invocation) (of : IsPrimitiveOf ds count i) (right : is_wrong_call ds i ≡ false) (fitting : AllByRecursion IsFitting i.arguments) where
  abbrev Counts : Primitive → Type 0
  Counts p = PrimitiveStands ds x count p → PrimitiveCounts ds x i p

  choose : (p q : Primitive) (b : Bool) → (b ≡ true → Counts p) → Counts q → Counts (cond b p q)
  choose p q true this other = this refl
  choose p q false this other = other

  skip : (p q : Primitive) (b : Bool) → Counts p → Counts q → Counts (cond b p q)
  skip p q true this other = this
  skip p q false this other = other

  abbrev is : Name → Bool
  is name = bytes_eq i.callee name

  at : (name : Name) (ps : List ArgumentPlace) (k : ℕ) (p : ArgumentPlace) → places_of name ≡ Some ps → slice_get ps k ≡ Some p → nat_lt (k + optional_count name) (length ps) ≡ true → is name ≡ true → IsJudged ds p (argument_at i k)
  at name ps k p places wants there e = judged ds (parameters_right ds none) i of.of_text right name ps k p places wants there e

  given : (name : Name) (ps : List ArgumentPlace) (k : ℕ) (p : ArgumentPlace) (a : Argument) → places_of name ≡ Some ps → slice_get ps k ≡ Some p → is name ≡ true → slice_get i.arguments k ≡ Some a → IsJudged ds p a
  given name ps k p a places wants e f =
      let wanted = wanted_so ds i name ps e places in
      judged_at ds ps i.arguments k p a (taken ds i ps wanted right).each (written_so ds (parameters_right ds none) i of.of_text ps wanted) wants f

  -- an argument that is left out counts as the number 0
  fit : (k : ℕ) → IsFitting (argument_at i k)
  fit k = ⊎_elim (λ lt. has_each IsFitting i.arguments (argument_at i k) fitting (has_at i.arguments k (argument_at i k) (slice_get-get_or i.arguments k _ lt))) (λ past. subst IsFitting (sym (get_or_past i.arguments k _ past)) refl) (cases_lt k (length i.arguments))

  natural : (name : Name) (ps : List ArgumentPlace) (k : ℕ) → places_of name ≡ Some ps → slice_get ps k ≡ Some place.Unsigned → nat_lt (k + optional_count name) (length ps) ≡ true → is name ≡ true → IsNatural (source ds i k)
  natural name ps k places wants there e = source_natural ds (argument_at i k) (fit k) (at name ps k place.Unsigned places wants there e).takes_it

  little : (k : ℕ) → IsSmall (source ds i k)
  little k = source_small ds (argument_at i k) (fit k)

  bits : (k : ℕ) → TargetStands ds (target ds i k) → HasBits ds (target ds i k)
  bits k stands = target_bits ds (none_twice ds none) (argument_at i k) stands.slot

  elements : (name : Name) (ps : List ArgumentPlace) → places_of name ≡ Some ps → slice_get ps 1 ≡ Some place.Elements → is name ≡ true → element_count i ≤ 256
  elements name ps places wants e = by (slice_get i.arguments 1) refl where
    by : (o : Option Argument) → slice_get i.arguments 1 ≡ o → element_count i ≤ 256
    by None f = rw f (omega arith)
    by (Some (number_argument n)) f = rw f (few_elements n (given name ps 1 place.Elements (number_argument n) places wants e f).takes_it)
    by (Some (field_argument r)) f = rw f (omega arith)
    by (Some (parameter_argument n)) f = rw f (omega arith)
    by (Some (name_argument j)) f = rw f (omega arith)

  hashed_is : (a : Argument) → IsJudged ds place.Calculation a → IsHashed ds x (calculation_named ds x (name_in_argument a))
  hashed_is (name_argument j) is = record { inst = j; is = refl; there = both (is_none j.index) _ is.takes_it; written = (is.written refl).0 }
  hashed_is (number_argument n) is = absurd (cc is.takes_it)
  hashed_is (field_argument r) is = absurd (cc is.takes_it)
  hashed_is (parameter_argument n) is = absurd (cc (is.written refl).1)

  preserved : (name : Name) (ps : List ArgumentPlace) (k : ℕ) → places_of name ≡ Some ps → slice_get ps k ≡ Some place.List → is name ≡ true → IsPreserved ds (list_at ds i k)
  preserved name ps k places wants e = by (slice_get i.arguments k) refl where
    listed : (j : _) → IsJudged ds place.List (name_argument j) → IsPreserved ds (list_number ds j.name)
    listed j is = at_number (list_number ds j.name) refl where
      at_number : (o : Option ℕ) → list_number ds j.name ≡ o → IsPreserved ds o
      at_number None f = tt
      at_number (Some n) f = (j.name, has_joined list_of (placed_arguments ds) (placed_argument place.List (name_argument j)) j.name (is.written refl).0 (inl refl), f)

    by : (o : Option Argument) → slice_get i.arguments k ≡ o → IsPreserved ds (list_at ds i k)
    by None f = rw f tt
    by (Some (name_argument j)) f = rw f (listed j (given name ps k place.List (name_argument j) places wants e f))
    by (Some (number_argument n)) f = rw f tt
    by (Some (field_argument r)) f = rw f tt
    by (Some (parameter_argument n)) f = rw f tt

  pub primitive_counts : Counts (primitive_of ds x i)
  primitive_counts =
      choose _ _ (is (codes "modify_field")) (λ e. skip _ _ (length i.arguments == 3) (λ s. (bits 0 s.0, tt, tt)) (λ s. (bits 0 s.0, tt, tt)))
      (choose _ _ (is (codes "add")) (λ e s. (bits 0 s.0, tt, (little 1, little 2)))
      (choose _ _ (is (codes "subtract")) (λ e s. (bits 0 s.0, tt, (little 1, little 2)))
      (choose _ _ (is (codes "add_to_field")) (λ e s. (bits 0 s.0, tt, (tt, little 1)))
      (choose _ _ (is (codes "subtract_from_field")) (λ e s. (bits 0 s.0, tt, (tt, little 1)))
      (choose _ _ (is (codes "bit_and")) (λ e s. (bits 0 s.0, tt, tt))
      (choose _ _ (is (codes "bit_or")) (λ e s. (bits 0 s.0, tt, tt))
      (choose _ _ (is (codes "bit_xor")) (λ e s. (bits 0 s.0, tt, tt))
      (choose _ _ (is (codes "shift_left")) (λ e s. (bits 0 s.0, (natural (codes "shift_left") _ 1 refl refl refl e, natural (codes "shift_left") _ 2 refl refl refl e), tt))
      (choose _ _ (is (codes "shift_right")) (λ e s. (bits 0 s.0, (natural (codes "shift_right") _ 1 refl refl refl e, natural (codes "shift_right") _ 2 refl refl refl e), tt))
      (choose _ _ (is (codes "add_header")) (λ e s. tt)
      (choose _ _ (is (codes "remove_header")) (λ e s. tt)
      (choose _ _ (is (codes "copy_header")) (λ e s. tt)
      (choose _ _ (is (codes "push")) (λ e s. elements (codes "push") _ refl refl e)
      (choose _ _ (is (codes "pop")) (λ e s. elements (codes "pop") _ refl refl e)
      (choose _ _ (is (codes "count")) (λ e s. tt)
      (choose _ _ (is (codes "register_read")) (λ e s. (bits 0 s.0, tt, tt))
      (choose _ _ (is (codes "register_write")) (λ e s. tt)
      (choose _ _ (is (codes "execute_meter")) (λ e s. bits 2 s.2)
      (choose _ _ (is hash) (λ e s. (bits 0 s.0, (natural hash _ 1 refl refl refl e, natural hash _ 3 refl refl refl e, hashed_is (argument_at i 2) (at hash _ 2 _ refl refl refl e)), tt))
      (choose _ _ (is (codes "drop")) (λ e s. (refl, tt, tt))
      (choose _ _ (is (codes "resubmit")) (λ e s. (first_of _ _ e, refl, preserved (codes "resubmit") _ 0 refl refl e))
      (choose _ _ (is (codes "recirculate")) (λ e s. (first_of _ _ e, refl, preserved (codes "recirculate") _ 0 refl refl e))
      (choose _ _ (is (codes "clone_ingress_pkt_to_egress")) (λ e s. (first_of _ _ e, tt, preserved (codes "clone_ingress_pkt_to_egress") _ 1 refl refl e))
      (choose _ _ (is (codes "clone_i2e")) (λ e s. (second_of _ _ (first_of _ _ e), tt, preserved (codes "clone_i2e") _ 1 refl refl e))
      (choose _ _ (is (codes "clone_egress_pkt_to_egress")) (λ e s. (first_of _ _ e, tt, preserved (codes "clone_egress_pkt_to_egress") _ 1 refl refl e))
      (choose _ _ (is (codes "clone_e2e")) (λ e s. (second_of _ _ (first_of _ _ e), tt, preserved (codes "clone_e2e") _ 1 refl refl e)) (λ s. tt)))))))))))))))))))))))))))
