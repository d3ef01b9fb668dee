-- Numbers cut to a width.
use Rattle.std.proofs.Common.{◌≡◌, ℕ, ◌+◌, ◌-◌, ◌*◌, ◌%◌, ◌^◌, ◌<◌, ◌≤◌, sym, ap, ◌∙◌, arith, bit_and}
use Rattle.std.proofs.Math.Pow.{mod-mod-pow, pow_mono}
use Rattle.std.proofs.Math.Nat.{mod-eq_of_lt}
use Rattle.std.proofs.lemmas.Nat.{and_mask}

pub whole : (n w : ℕ) → n < 2 ^ 128 → 128 ≤ w → n ≡ n % 2 ^ w
whole n w h le = let p : 2 ^ 128 ≤ 2 ^ w = pow_mono le in let q : n < 2 ^ w = omega arith in sym (mod-eq_of_lt q)

pub all_fit : (n w : ℕ) → n < 2 ^ 128 → 128 ≤ w → n < 2 ^ w
all_fit n w h le = let p : 2 ^ 128 ≤ 2 ^ w = pow_mono le in omega arith

pub cut_again : (n w : ℕ) → w ≤ 128 → n % 2 ^ 128 % 2 ^ w ≡ n % 2 ^ w
cut_again n w le = let e : (128 - w) + w ≡ 128 = omega arith in ap (λ (k : ℕ). n % 2 ^ k % 2 ^ w) (sym e) ∙ mod-mod-pow n (128 - w) w

small_power : (w : ℕ) → w < 128 → (1 * 2 ^ w) % 2 ^ 128 ≡ 2 ^ w
small_power w h = let p : 2 ^ w ≤ 2 ^ 127 = pow_mono {j = 127} (omega arith) in omega arith

pub masked : (n w : ℕ) → w < 128 → bit_and n ((1 * 2 ^ w) % 2 ^ 128 - 1) ≡ n % 2 ^ w
masked n w h = rw small_power (and_mask n w)

small_word : (w : ℕ) → w < 64 → (1 * 2 ^ w) % 2 ^ 64 ≡ 2 ^ w
small_word w h = let p : 2 ^ w ≤ 2 ^ 63 = pow_mono {j = 63} (omega arith) in omega arith

pub masked_word : (n w : ℕ) → w < 64 → bit_and n ((1 * 2 ^ w) % 2 ^ 64 - 1) ≡ n % 2 ^ w
masked_word n w h = rw small_word (and_mask n w)

pub three : (a b c : ℕ) → ((a + b % 2 ^ 128) % 2 ^ 128 + c) % 2 ^ 128 ≡ (a + b + c) % 2 ^ 128
three a b c = omega arith
