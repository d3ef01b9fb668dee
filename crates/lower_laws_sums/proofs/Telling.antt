-- What conditions of calculated fields tell, and what they tell once the field was updated.
use Rattle.std.proofs.Common.{◌≡◌, ◌≢◌, ◌⊎◌, inl, inr, eqb, ℕ, ◌<◌, ◌^◌, nat_lt, Bool, true, false, cond, List, [], length, refl, sym, subst}
use Rattle.std.proofs.lemmas.Bool.{ltb-true, lt-ltb}
use Rattle.std.proofs.lemmas.Bool.Decides.{eqb_tells}
use Rattle.p414_syntax.specs.declared.calculations.CalcCond.{CalcCond}
use Rattle.p414_syntax.specs.declared.calculations.CalcCond.TheVariants as calc_cond
use Rattle.p414_syntax.specs.declared.syntax.Decl.{Decl}
use Rattle.p414_sem.specs.Slots.{Slot, standard, declared, slot_of, element_of}
use Rattle.p414_sem.specs.State.{State, instance_at, is_live, read as read14, written}
use Rattle.p414_sem.specs.CalculatedFields.{condition_holds}
use Rattle.p416_syntax.specs.declared.node.BinaryOperator.TheVariants.{Equal}
use Rattle.p416_syntax.specs.Tree.{Exp16, literal, truth, binary}
use Rattle.p416_syntax.specs.Kinds.{boolean}
use Rattle.p416_syntax.specs.Scopes.{Scope}
use Rattle.v1_core.specs.Values.{a_truth}
use Rattle.v1_core.specs.Frames.{Moment}
use Rattle.lower_laws_base.specs.Context.{StateLayout, Lowering, words_of, now, Looks, IsSlot, Shaped}
use Rattle.lower_laws_base.specs.Mirror.{sized, width_in, slot_exp}
use Rattle.lower_laws_base.proofs.Gives.{gives_literal}
use Rattle.lower_laws_base.proofs.Shapes.{slot_bounded}
use Rattle.lower_laws_base.proofs.Sources.{gives_slot}
use Rattle.lower_laws_base.proofs.Writes.{header_shows}
use Rattle.lower_laws_controls.proofs.Holding.{shows_compared, shows_live}
use Rattle.lower_laws_sums.specs.Sums.{condition_exp, header_exp, ConditionFits, IsHeaderSlot}
use Rattle.lower_laws_sums.proofs.Chain.{Asks}
use Rattle.lower_laws_sums.proofs.Kept.{valid_kept, condition_kept}
use Rattle.lower_laws_base.specs.Gives.{Shows}

-- a number of more bits than the field has
too_large : (x y bound : ℕ) → x < bound → nat_lt y bound ≡ false → eqb x y ≡ false
too_large x y bound lt large = by (eqb_tells x y) where
  by : ((eqb x y ≡ true) × (x ≡ y)) ⊎ ((eqb x y ≡ false) × (x ≢ y)) → eqb x y ≡ false
  by (inr other) = other.0
  by (inl same) =
      let less : y < bound = subst (λ z. z < bound) same.1 lt in
      absurd (cc (lt-ltb y bound less, large))

module _ (c : Lowering) (s : Scope) (r : State) (n : Moment) (looks : Looks c s [] [] [] now r n.frame) (ds : List Decl) where
  abbrev Tell : Exp16 → Bool → Type 0
  Tell e b = Shows c.world s n e boolean (a_truth b)

  -- a condition tells whether it holds
  pub shows_calc : (slot : Slot) (k : CalcCond) → ConditionFits c.layout ds slot k → Tell (condition_exp (words_of c) ds k) (condition_holds ds r k)
  shows_calc slot (calc_cond.Valid i) fits = shows_live c s [] [] [] r n looks ds (element_of ds i) fits
  shows_calc slot (calc_cond.Equal f x) fits = by (nat_lt x.value (2 ^ width)) refl where
    field : Slot
    field = slot_of ds f

    width : ℕ
    width = width_in (words_of c) field

    compared : Exp16
    compared = binary Equal (slot_exp (words_of c) now field) (literal (sized width x.value))

    by : (b : Bool) → nat_lt x.value (2 ^ width) ≡ b → Tell (cond b compared (truth false)) (eqb (read14 r field) x.value)
    by true e =
        shows_compared c.world s n Equal (λ a b p. refl) (λ a b. refl) _ _ width (read14 r field) x.value _ refl
        (gives_slot c s [] [] [] now r n looks field fits.0) (gives_literal c.world s n width x.value (ltb-true x.value (2 ^ width) e))
    by false e =
        subst (λ b. Tell (truth false) b) (sym (too_large (read14 r field) x.value (2 ^ width) (slot_bounded c.layout r looks.seen.shaped field fits.0) e))
        (record { kind = refl; value = λ p. refl })

  -- the header of a field
  pub asks_header : (slot : Slot) → IsHeaderSlot c.layout slot → Asks c.world s (header_exp (words_of c) slot) (is_live r slot) n
  asks_header (standard which) is = absurd is
  asks_header (declared i e k) is = record { plainly = refl; shows = header_shows c s [] [] [] now r n looks (record { instance = i; element = e }) is.1 }

-- an update changes neither the condition nor whether the header is valid
module _ (g : StateLayout) (s : State) (shaped : Shaped g s) where
  within : (i e k : ℕ) → IsSlot g (declared i e k) → (i < length s.instances) × (e < length (instance_at s i).elements)
  within i e k is = (subst (λ z. i < z) (sym shaped.count) is.0, subst (λ z. e < z) (sym (shaped.sizes i is.0)) is.1)

  pub condition_after : (slot : Slot) → IsHeaderSlot g slot → (n : ℕ) (ds : List Decl) (k : CalcCond) → ConditionFits g ds slot k → condition_holds ds (written s slot n) k ≡ condition_holds ds s k
  condition_after (standard which) is n ds k fits = absurd is
  condition_after (declared i e f) is n ds k fits = condition_kept s i e f n (within i e f is.0).0 (within i e f is.0).1 g ds k fits

  pub live_after : (slot : Slot) → IsHeaderSlot g slot → (n : ℕ) → is_live (written s slot n) slot ≡ is_live s slot
  live_after (standard which) is n = absurd is
  live_after (declared i e f) is n = valid_kept s i e f n (within i e f is.0).0 (within i e f is.0).1 i e

pub header_slot : (g : StateLayout) (slot : Slot) → IsHeaderSlot g slot → IsSlot g slot
header_slot g (standard which) is = absurd is
header_slot g (declared i e k) is = is.0
