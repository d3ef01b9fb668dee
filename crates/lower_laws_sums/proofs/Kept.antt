-- What a write to a field of a header leaves as it was: validity, and the numbers of all other fields.
use Rattle.std.proofs.Common.{◌≡◌, ◌≢◌, ◌⊎◌, inl, inr, eqb, ℕ, ◌<◌, Bool, true, false, cond, List, length, get_or, refl, sym, ap, ap₂, ◌∙◌, subst}
use Rattle.std.proofs.lemmas.Bool.Decides.{eqb_tells}
use Rattle.std.proofs.lemmas.List.{get_or-set_same, get_or-set_other}
use Rattle.p414_syntax.specs.declared.calculations.CalcCond.{CalcCond}
use Rattle.p414_syntax.specs.declared.calculations.CalcCond.TheVariants as calc_cond
use Rattle.p414_syntax.specs.declared.syntax.Decl.{Decl}
use Rattle.p414_sem.specs.declared.standard.Standard.{Standard}
use Rattle.p414_sem.specs.declared.standard.Standard.TheVariants.{IngressPort, EgressSpec, EgressPort, PacketLength, InstanceType}
use Rattle.p414_sem.specs.Slots.{Slot, standard, declared, slot_of, element_of}
use Rattle.p414_sem.specs.State.{Header, Instance, State, no_header, no_instance, instance_at, header_at, is_valid, read, standard_number, with_header, with_field, written}
use Rattle.p414_sem.specs.CalculatedFields.{condition_holds}
use Rattle.lower_laws_base.specs.Context.{StateLayout}
use Rattle.lower_laws_sums.specs.Sums.{ConditionFits}

module _ (s : State) (i e : ℕ) (a : i < length s.instances) (b : e < length (instance_at s i).elements) (h : Header) where
  abbrev put : State
  put = with_header s i e h

  same_header : header_at put i e ≡ h
  same_header =
      ap (λ (x : Instance). get_or x.elements e no_header) (get_or-set_same s.instances i _ no_instance a)
      ∙ get_or-set_same (instance_at s i).elements e h no_header b

  other_element : (d : ℕ) → d ≢ e → header_at put i d ≡ header_at s i d
  other_element d apart =
      ap (λ (x : Instance). get_or x.elements d no_header) (get_or-set_same s.instances i _ no_instance a)
      ∙ get_or-set_other (instance_at s i).elements e d h no_header apart

  other_instance : (j d : ℕ) → j ≢ i → header_at put j d ≡ header_at s j d
  other_instance j d apart = ap (λ (x : Instance). get_or x.elements d no_header) (get_or-set_other s.instances i j _ no_instance apart)

  -- what each header and each field of these is
  headers_kept : (P : Header → Header → Type 0) → ((j d : ℕ) → P (header_at s j d) (header_at s j d)) → P h (header_at s i e) → (j d : ℕ) → P (header_at put j d) (header_at s j d)
  headers_kept P all own j d = by (eqb_tells j i) (eqb_tells d e) where
    by : ((eqb j i ≡ true) × (j ≡ i)) ⊎ ((eqb j i ≡ false) × (j ≢ i)) → ((eqb d e ≡ true) × (d ≡ e)) ⊎ ((eqb d e ≡ false) × (d ≢ e)) → P (header_at put j d) (header_at s j d)
    by (inr other) y = subst (λ z. P z (header_at s j d)) (sym (other_instance j d other.1)) (all j d)
    by (inl same) (inr other) =
        subst (λ z. P (header_at put z d) (header_at s z d)) (sym same.1) (subst (λ z. P z (header_at s i d)) (sym (other_element d other.1)) (all i d))
    by (inl same) (inl also) =
        subst (λ z. P (header_at put z d) (header_at s z d)) (sym same.1)
        (subst (λ z. P (header_at put i z) (header_at s i z)) (sym also.1) (subst (λ z. P z (header_at s i e)) (sym same_header) own))

module _ (s : State) (i e k n : ℕ) (a : i < length s.instances) (b : e < length (instance_at s i).elements) where
  abbrev new : State
  new = written s (declared i e k) n

  pub valid_kept : (j d : ℕ) → is_valid new j d ≡ is_valid s j d
  valid_kept j d = by (is_valid s i e) where
    by : (v : Bool) → is_valid (cond v (with_header s i e (with_field (header_at s i e) k n)) s) j d ≡ is_valid s j d
    by false = refl
    by true = headers_kept s i e a b (with_field (header_at s i e) k n) (λ x y. x.valid ≡ y.valid) (λ j d. refl) refl j d

  number_kept : (j d f : ℕ) → (declared j d f ≢ declared i e k) → read new (declared j d f) ≡ read s (declared j d f)
  number_kept j d f apart = by (is_valid s i e) where
    own : (eqb f k ≡ true) × (f ≡ k) → (j ≡ i) × (d ≡ e) → ⊥
    own same at = apart (ap₂ (λ (x y : ℕ). declared x y f) at.0 at.1 ∙ ap (declared i e) same.1)

    by : (v : Bool) → read (cond v (with_header s i e (with_field (header_at s i e) k n)) s) (declared j d f) ≡ read s (declared j d f)
    by false = refl
    by true = split (eqb_tells f k) (eqb_tells j i) (eqb_tells d e) where
      h : Header
      h = with_field (header_at s i e) k n

      seen : Header → ℕ
      seen x = cond x.valid (get_or x.numbers f 0) 0

      split : ((eqb f k ≡ true) × (f ≡ k)) ⊎ ((eqb f k ≡ false) × (f ≢ k)) → ((eqb j i ≡ true) × (j ≡ i)) ⊎ ((eqb j i ≡ false) × (j ≢ i)) → ((eqb d e ≡ true) × (d ≡ e)) ⊎ ((eqb d e ≡ false) × (d ≢ e)) → read (with_header s i e h) (declared j d f) ≡ read s (declared j d f)
      split (inr other) y z =
          headers_kept s i e a b h (λ x y. cond x.valid (get_or x.numbers f 0) 0 ≡ cond y.valid (get_or y.numbers f 0) 0) (λ j d. refl)
          (ap (λ z. cond (header_at s i e).valid z 0) (get_or-set_other (header_at s i e).numbers k f n 0 other.1)) j d
      split (inl same) (inr other) z = ap (λ (x : Header). cond x.valid (get_or x.numbers f 0) 0) (other_instance s i e a b h j d other.1)
      split (inl same) (inl at) (inr other) =
          subst (λ z. read (with_header s i e h) (declared z d f) ≡ read s (declared z d f)) (sym at.1)
          (ap (λ (x : Header). cond x.valid (get_or x.numbers f 0) 0) (other_element s i e a b h d other.1))
      split (inl same) (inl at) (inl also) = absurd (own same (at.1, also.1))

  pub read_kept : (slot : Slot) → slot ≢ declared i e k → read new slot ≡ read s slot
  read_kept (declared j d f) apart = number_kept j d f apart
  read_kept (standard which) apart = by (is_valid s i e) which where
    by : (v : Bool) (which : Standard) → standard_number (cond v (with_header s i e (with_field (header_at s i e) k n)) s) which ≡ standard_number s which
    by true IngressPort = refl
    by true EgressSpec = refl
    by true EgressPort = refl
    by true PacketLength = refl
    by true InstanceType = refl
    by false which = refl

  -- a condition that doesn't read the field
  pub condition_kept : (g : StateLayout) (ds : List Decl) (c : CalcCond) → ConditionFits g ds (declared i e k) c → condition_holds ds new c ≡ condition_holds ds s c
  condition_kept g ds (calc_cond.Valid x) fits = valid_kept (element_of ds x).instance (element_of ds x).element
  condition_kept g ds (calc_cond.Equal r x) fits = ap (λ z. eqb z x.value) (read_kept (slot_of ds r) fits.1)
