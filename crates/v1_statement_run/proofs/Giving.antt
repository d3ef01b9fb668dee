-- The values that are given.
use Rattle.std.proofs.Common.{◌≡◌, ◌≢◌, ℕ, Bool, cond, zero, suc, ◌+◌, ◌%◌, ◌^◌, ◌<◌, List, [], ◌∷◌, map, slice_get, Some, None, refl, sym, ap, subst}
use Rattle.std.proofs.Math.Nat.{mod-eq_of_lt}
use Rattle.std.proofs.lemmas.Bool.{ne_eqb}
use Rattle.std.specs.Prelude.{slice_index_or}
use Rattle.v1_core.specs.Values.{no_value}
use Rattle.v1_core.specs.Externs.Hashes.{in_range}
use Rattle.v1_core.specs.declared.scalar.Scalar.{Scalar}
use Rattle.v1_core.specs.Scalars.{seen_scalar}

pub value_there : (values : List Scalar) (n : ℕ) (x : Scalar) → Some x ≡ slice_get values n → seen_scalar x ≡ slice_index_or (map seen_scalar values) n no_value
value_there [] n x e = absurd (cc e)
value_there (v ∷ values) zero x e = ap seen_scalar (some_is e)
  where
    some_is : Some x ≡ Some v → x ≡ v
    some_is same = cc same
value_there (v ∷ values) (suc n) x e = value_there values n x e

pub value_past : (values : List Scalar) (n : ℕ) → None ≡ slice_get values n → no_value ≡ slice_index_or (map seen_scalar values) n no_value
value_past [] n e = refl
value_past (v ∷ values) zero e = absurd (cc e)
value_past (v ∷ values) (suc n) e = value_past values n e

-- a base and a result modulo a bound

pub base_alone : (base sum bound : ℕ) → bound ≡ 0 → base < 2 ^ 128 → base ≡ in_range base sum bound % 2 ^ 128
base_alone base sum bound e h = subst (λ b. base ≡ in_range base sum b % 2 ^ 128) (sym e) (sym (mod-eq_of_lt h))

pub base_and_result : (base sum bound : ℕ) → bound ≢ 0 → (base + sum % bound) % 2 ^ 128 ≡ in_range base sum bound % 2 ^ 128
base_and_result base sum bound some =
    sym (ap (λ (b : Bool). cond b base (base + sum % bound) % 2 ^ 128) (ne_eqb bound 0 some))
