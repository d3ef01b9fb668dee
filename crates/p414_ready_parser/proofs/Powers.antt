-- Numbers of so many bits.
use Rattle.std.proofs.Common.{◌≡◌, ℕ, ◌-◌, ◌%◌, ◌^◌, ◌<◌, ◌≤◌, true, nat_lt, zero, suc, ℤ, pos, negsuc, neg_ℤ, refl, sym, ap, ◌∙◌, arith}
use Rattle.std.proofs.lemmas.Bool.{lt-ltb}
use Rattle.std.proofs.Math.Nat.{mod-eq_of_lt, mod-lt, one-le-pow, pow-le-pow_right}
use Rattle.p414_sem.specs.Wholes.{wrapped}

-- a number of 128 bits has no more than so many
pub fits_all : (width value : ℕ) → 128 ≤ width → value < 2 ^ 128 → true ≡ nat_lt value (2 ^ width)
fits_all width value le lt =
    let more : 2 ^ 128 ≤ 2 ^ width = pow-le-pow_right (omega arith) le in
    sym (lt-ltb value (2 ^ width) (omega (arith, lt, more)))

some_numbers : (width : ℕ) → 0 < 2 ^ width
some_numbers width = let h : 1 ≤ 2 ^ width = one-le-pow width 2 (omega arith) in omega (arith, h)

pub wrapped_low : (width : ℕ) (z : ℤ) → wrapped width z ≡ wrapped width z % 2 ^ width
wrapped_low width (pos n) = sym (mod-eq_of_lt (mod-lt n (some_numbers width)))
wrapped_low width (negsuc n) =
    let some : 0 < 2 ^ width = some_numbers width in
    let below : 2 ^ width - 1 - n % 2 ^ width < 2 ^ width = omega (arith, some) in
    sym (mod-eq_of_lt below)

-- with a minus sign

pub minus_fits : (width greatest low value : ℕ) → greatest ≡ 2 ^ width - 1 → low ≡ value % 2 ^ width → low ≤ greatest
minus_fits width greatest low value e f =
    let below : value % 2 ^ width < 2 ^ width = mod-lt value (some_numbers width) in
    omega (arith, e, f, below)

pub minus_none : (width value low : ℕ) → value ≡ 0 → low ≡ 0 % 2 ^ width → low ≡ wrapped width (neg_ℤ (pos value))
minus_none width value low e f = f ∙ sym (ap (λ v. wrapped width (neg_ℤ (pos v))) e)

pub minus_some : (width value greatest low : ℕ) → (value ≡ 0 → ⊥) → greatest ≡ 2 ^ width - 1 → low ≡ (value - 1) % 2 ^ width → greatest - low ≡ wrapped width (neg_ℤ (pos value))
minus_some width zero greatest low some e f = absurd (some refl)
minus_some width (suc n) greatest low some e f =
    let same : suc n - 1 ≡ n = omega arith in
    ap (λ g. g - low) e ∙ (ap (λ l. 2 ^ width - 1 - l) f ∙ ap (λ k. 2 ^ width - 1 - k % 2 ^ width) same)
