-- Numbers as sources, and the bits of references that stand somewhere.
use Rattle.std.proofs.Common.{◌≡◌, ℕ, zero, suc, ◌<◌, ◌≤◌, ◌^◌, Bool, true, false, cond, ◌&&◌, not, Option, Some, None, List, refl, sym, ap, ◌∙◌, arith}
use Rattle.std.specs.Prelude.{pos, nat_le, nat_eq}
use Rattle.std.proofs.lemmas.Bool.{ltb-true, leb-true, eqb-true}
use Rattle.std.proofs.Math.IntN.{neg_ℤ}
use Rattle.std.proofs.Math.Pow.{pow_mono}
use Rattle.p414_syntax.specs.declared.lexeme.Literal.{Literal}
use Rattle.p414_syntax.specs.SpeltLexemes.{fits_in, is_spelt_literal}
use Rattle.p414_syntax.specs.declared.syntax.Decl.{Decl}
use Rattle.p414_syntax.specs.declared.place.ArgumentPlace.TheVariants as place
use Rattle.p414_syntax.specs.Arguments.{Argument, number_argument, field_argument, parameter_argument, name_argument}
use Rattle.p414_syntax.specs.Calls.{is_minus_sign, is_negative, takes}
use Rattle.p414_sem.specs.Operations.{source_of, number}
use Rattle.lower_laws_states.proofs.Members.{of_not}
use Rattle.lower_laws_actions.specs.Fits.{IsSmall, IsNatural}
use Rattle.lower_laws_premises.specs.Literals.{IsFitting}

pub split : (a b : Bool) → a && b ≡ true → (a ≡ true) × (b ≡ true)
split true b e = (refl, e)
split false b e = absurd (cc e)

-- a number of a text is below 2 ^ 128
pub small : (n : Literal) → is_spelt_literal n ≡ true → n.value < 2 ^ 128
small n is = by n.width is where
  by : (w : Option ℕ) → fits_in w n.value ≡ true → n.value < 2 ^ 128
  by None e = ltb-true n.value (2 ^ 128) e
  by (Some w) e =
      let parts = split (nat_le 1 w) _ e in
      let more = split (nat_le w 128) _ parts.1 in
      let few : 2 ^ w ≤ 2 ^ 128 = pow_mono (leb-true w 128 more.0) in
      let lt = ltb-true n.value (2 ^ w) more.1 in
      omega (arith, few, lt)

-- and with a width of as many bits, 1 to 128
pub sized : (n : Literal) (w : ℕ) → n.width ≡ Some w → is_spelt_literal n ≡ true → (0 < w) × (w ≤ 128) × (n.value < 2 ^ w)
sized n w same is =
    let parts = split (nat_le 1 w) _ (ap (λ (o : Option ℕ). fits_in o n.value) (sym same) ∙ is) in
    let more = split (nat_le w 128) _ parts.1 in
    (leb-true 1 w parts.0, leb-true w 128 more.0, ltb-true n.value (2 ^ w) more.1)

small_whole : (b : Bool) (v : ℕ) → v < 2 ^ 128 → IsSmall (number (cond b (neg_ℤ (pos v)) (pos v)))
small_whole false v lt = lt
small_whole true zero lt = lt
small_whole true (suc k) lt = lt

natural_whole : (b : Bool) (v : ℕ) → v < 2 ^ 128 → b && not (nat_eq v 0) ≡ false → IsNatural (number (cond b (neg_ℤ (pos v)) (pos v)))
natural_whole false v lt e = lt
natural_whole true zero lt e = lt
natural_whole true (suc k) lt e = let same = eqb-true (suc k) 0 (of_not (nat_eq (suc k) 0) e) in absurd (omega (arith, same))

pub source_small : (ds : List Decl) (a : Argument) → IsFitting a → IsSmall (source_of ds a)
source_small ds (number_argument n) is = small_whole (is_minus_sign n.sign) n.literal.value (small n.literal is)
source_small ds (field_argument r) is = tt
source_small ds (parameter_argument n) is = tt
source_small ds (name_argument i) is = omega arith

false_of_not : (b : Bool) → not b ≡ true → b ≡ false
false_of_not true e = absurd (cc e)
false_of_not false e = refl

pub source_natural : (ds : List Decl) (a : Argument) → IsFitting a → takes ds place.Unsigned a ≡ true → IsNatural (source_of ds a)
source_natural ds (number_argument n) is right = natural_whole (is_minus_sign n.sign) n.literal.value (small n.literal is) (false_of_not (is_negative n) right)
source_natural ds (field_argument r) is right = tt
source_natural ds (parameter_argument n) is right = tt
source_natural ds (name_argument i) is right = omega arith
