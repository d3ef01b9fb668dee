-- Numbers modulo 2 ^ width.
use Rattle.std.proofs.Common.{◌≡◌, ℕ, ◌+◌, ◌-◌, ◌*◌, ◌%◌, ◌^◌, ◌<◌, ◌≤◌, sym, ap, ◌∙◌, arith}
use Rattle.std.proofs.Math.Nat.{add-mul-mod_self_right}
use Rattle.std.proofs.Math.Pow.{mod-mod-pow}

-- a number that was cut to 128 bits, cut again
pub low_again : (width n cut low : ℕ) → width ≤ 128 → cut ≡ n % 2 ^ 128 → low ≡ cut % 2 ^ width → low ≡ n % 2 ^ width
low_again width n cut low le whole is =
    let both : (128 - width) + width ≡ 128 = omega (arith, le) in
    is ∙ (ap (λ k. k % 2 ^ width) (whole ∙ ap (λ k. n % 2 ^ k) (sym both)) ∙ mod-mod-pow n (128 - width) width)

pub negated_low : (width a power negated : ℕ) → power ≡ 2 ^ width → negated ≡ (power - a) % power → negated ≡ (2 ^ width - a) % 2 ^ width
negated_low width a power negated same is = is ∙ ap (λ k. (k - a) % k) same

pub less_within : (width a b less : ℕ) → b ≤ a → less ≡ (a - b) % 2 ^ width → less ≡ (a + 2 ^ width - b) % 2 ^ width
less_within width a b less le is =
    let once : a + 2 ^ width - b ≡ (a - b) + 1 * 2 ^ width = omega (arith, le) in
    is ∙ sym (ap (λ k. k % 2 ^ width) once ∙ add-mul-mod_self_right (a - b) 1 (2 ^ width))

pub less_past : (width a b less : ℕ) → a < b → less ≡ (2 ^ width - (b - a)) % 2 ^ width → less ≡ (a + 2 ^ width - b) % 2 ^ width
less_past width a b less lt is =
    let same : 2 ^ width - (b - a) ≡ a + 2 ^ width - b = omega (arith, lt) in is ∙ ap (λ k. k % 2 ^ width) same
