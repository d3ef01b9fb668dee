-- Numbers cut to a width.
use Rattle.std.proofs.Common.{◌≡◌, ℕ, zero, ◌+◌, ◌-◌, ◌*◌, ◌%◌, ◌^◌, ◌<◌, ◌≤◌, min, Bool, true, false, sym, ap, subst, ◌∙◌, arith, bit_and, bit_or, bit_xor}
use Rattle.p4x_bits.specs.BitLists.{bit}
use Rattle.std.proofs.Math.Pow.{mod-mod-pow, pow_mono}
use Rattle.std.proofs.Math.Nat.{mod-eq_of_lt, add-mul-mod_self_right}
use Rattle.std.proofs.lemmas.Nat.{and_le_l, and_mask, mul-add-lt, or_lt, pow-add, pow_pos, shl_whole, xor_lt}

pub whole : (n w : ℕ) → n < 2 ^ 128 → 128 ≤ w → n ≡ n % 2 ^ w
whole n w h le = let p : 2 ^ 128 ≤ 2 ^ w = pow_mono le in let q : n < 2 ^ w = omega arith in sym (mod-eq_of_lt q)

pub all_fit : (n w : ℕ) → n < 2 ^ 128 → 128 ≤ w → n < 2 ^ w
all_fit n w h le = let p : 2 ^ 128 ≤ 2 ^ w = pow_mono le in omega arith

pub cut_again : (n w : ℕ) → w ≤ 128 → n % 2 ^ 128 % 2 ^ w ≡ n % 2 ^ w
cut_again n w le = let e : (128 - w) + w ≡ 128 = omega arith in ap (λ (k : ℕ). n % 2 ^ k % 2 ^ w) (sym e) ∙ mod-mod-pow n (128 - w) w

pub small_power : (w : ℕ) → w < 128 → (1 * 2 ^ w) % 2 ^ 128 ≡ 2 ^ w
small_power w h = let p : 2 ^ w ≤ 2 ^ 127 = pow_mono {j = 127} (omega arith) in omega arith

pub masked : (n w : ℕ) → w < 128 → bit_and n ((1 * 2 ^ w) % 2 ^ 128 - 1) ≡ n % 2 ^ w
masked n w h = rw small_power (and_mask n w)

-- a difference modulo 2 ^ 128 is one modulo a smaller power

turned : (a b x y : ℕ) → b ≤ x → a + (y + x - b) ≡ (a + x - b) + y
turned a b x y le = omega arith

split : (w : ℕ) → w ≤ 128 → 2 ^ 128 ≡ (2 ^ (128 - w) - 1) * 2 ^ w + 2 ^ w
split w le =
    let e : (128 - w) + w ≡ 128 = omega arith in
    let p : zero < 2 ^ (128 - w) = pow_pos (128 - w) in
    ap (λ (k : ℕ). 2 ^ k) (sym e) ∙ (pow-add 2 (128 - w) w ∙ one_less (2 ^ (128 - w)) (2 ^ w) p)
  where
    more : (k y : ℕ) → (k + 1) * y ≡ k * y + y
    more k y = omega arith

    one_less : (x y : ℕ) → zero < x → x * y ≡ (x - 1) * y + y
    one_less x y h = let e : x ≡ x - 1 + 1 = omega arith in ap (λ (k : ℕ). k * y) e ∙ more (x - 1) y

pub difference_is : (a b w : ℕ) → w ≤ 128 → b < 2 ^ w → (a + (2 ^ 128 - b)) % 2 ^ 128 % 2 ^ w ≡ (a + 2 ^ w - b) % 2 ^ w
difference_is a b w le h =
    let le_b : b ≤ 2 ^ w = omega arith in
    cut_again (a + (2 ^ 128 - b)) w le
    ∙ (ap (λ (k : ℕ). (a + (k - b)) % 2 ^ w) (split w le)
    ∙ (ap (λ (k : ℕ). k % 2 ^ w) (turned a b (2 ^ w) ((2 ^ (128 - w) - 1) * 2 ^ w) le_b)
    ∙ add-mul-mod_self_right (a + 2 ^ w - b) (2 ^ (128 - w) - 1) (2 ^ w)))

pub negated_is : (a w n : ℕ) → n ≡ (0 + 2 ^ w - a) % 2 ^ w → n ≡ (2 ^ w - a) % 2 ^ w
negated_is a w n is = is ∙ ap (λ (k : ℕ). (k - a) % 2 ^ w) (none (2 ^ w))
  where
    none : (x : ℕ) → 0 + x ≡ x
    none x = omega arith

-- sums that are too large

pub saturated : (a b w n : ℕ) → n ≡ 2 ^ w - 1 → min (a + b) n ≡ min (a + b) (2 ^ w - 1)
saturated a b w n is = ap (min (a + b)) is

pub past_all : (a b w n : ℕ) → w ≤ 128 → n ≡ 2 ^ w - 1 → 2 ^ 128 ≤ a + b → n ≡ min (a + b) (2 ^ w - 1)
past_all a b w n le is past = let p : 2 ^ w ≤ 2 ^ 128 = pow_mono le in is ∙ sym (at_most (a + b) (2 ^ w - 1) (omega arith))
  where
    at_most : (x y : ℕ) → y ≤ x → min x y ≡ y
    at_most x y h = omega arith

-- results stay below

pub sum_fits : (a b w n : ℕ) → n ≡ min (a + b) (2 ^ w - 1) → n < 2 ^ w
sum_fits a b w n is = let p : zero < 2 ^ w = pow_pos w in below (a + b) (2 ^ w) n is p
  where
    below : (x y k : ℕ) → k ≡ min x (y - 1) → zero < y → k < y
    below x y k e h = omega arith

pub less_fits : (a b w n : ℕ) → a < 2 ^ w → n ≡ a - b → n < 2 ^ w
less_fits a b w n h is = omega arith

pub and_fits : (a b w : ℕ) → a < 2 ^ w → b < 2 ^ w → bit_and a b < 2 ^ w
and_fits a b w h g = let le : bit_and a b ≤ a = and_le_l a b in omega arith

pub xor_fits : (a b w : ℕ) → a < 2 ^ w → b < 2 ^ w → bit_xor a b < 2 ^ w
xor_fits a b w h g = xor_lt w a b h g

pub or_fits : (a b w : ℕ) → a < 2 ^ w → b < 2 ^ w → bit_or a b < 2 ^ w
or_fits a b w h g = or_lt w a b h g

pub bit_fits : (holds : Bool) (w : ℕ) → 0 < w → bit holds < 2 ^ w
bit_fits holds w h = let p : 2 ^ 1 ≤ 2 ^ w = pow_mono {j = w} h in by_case (2 ^ w) holds (omega arith)
  where
    by_case : (n : ℕ) (b : Bool) → 2 ≤ n → bit b < n
    by_case n false le = omega arith
    by_case n true le = omega arith

-- one number behind another

pub joined_fits : (w v a b : ℕ) → a < 2 ^ w → b < 2 ^ v → a * 2 ^ v + b < 2 ^ (w + v)
joined_fits w v a b h g =
    let turned_round : w + v ≡ v + w = omega arith in
    subst (λ (k : ℕ). a * 2 ^ v + b < k) (sym (ap (λ (k : ℕ). 2 ^ k) turned_round ∙ pow-add 2 v w)) (mul-add-lt a (2 ^ v) b (2 ^ w) h g)

pub joined_is : (w v a b : ℕ) → w + v ≤ 128 → a < 2 ^ w → (a * 2 ^ v) % 2 ^ 128 ≡ a * 2 ^ v
joined_is w v a b le h = shl_whole a w v 128 h le

pub put_behind : (w v a b : ℕ) → w + v ≤ 128 → a < 2 ^ w → b < 2 ^ v → (a * 2 ^ v) % 2 ^ 128 + b < 2 ^ (w + v)
put_behind w v a b le h g = subst (λ (k : ℕ). k + b < 2 ^ (w + v)) (sym (joined_is w v a b le h)) (joined_fits w v a b h g)

pub sum_in_range : (w v a b : ℕ) → w + v ≤ 128 → a < 2 ^ w → b < 2 ^ v → (a * 2 ^ v) % 2 ^ 128 + b < 2 ^ 128
sum_in_range w v a b le h g = let p : 2 ^ (w + v) ≤ 2 ^ 128 = pow_mono le in omega (arith, put_behind w v a b le h g)

pub joined_whole : (w v a b : ℕ) → w + v ≤ 128 → 128 ≤ v → a < 2 ^ w → b ≡ a * 2 ^ v + b
joined_whole w v a b le all h =
    let none : w ≡ zero = omega arith in
    let small : a < 2 ^ zero = subst (λ (k : ℕ). a < 2 ^ k) none h in
    let nothing : a ≡ zero = omega arith in
    rw nothing (omega arith)
