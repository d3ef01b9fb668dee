-- To keep a whole number modulo 2 ^ w respects sums, differences and bits.
use Rattle.std.proofs.Common.{◌≡◌, ℕ, zero, suc, ◌+◌, ◌-◌, ◌*◌, ◌/◌, ◌%◌, ◌^◌, ◌<◌, ◌≤◌, refl, sym, ap, ap₂, ◌∙◌, arith}
use Rattle.std.specs.Prelude.{ℤ, pos, negsuc, ◌+ℤ◌, ◌-ℤ◌, bit_and, bit_or, bit_xor, min, max}
use Rattle.std.proofs.Math.Nat.{add-mod, mul-div_cancel, mod-eq_of_lt}
use Rattle.std.proofs.lemmas.Int.{ints, int_rem_euclid_is}
use Rattle.std.specs.Int.{int_rem_euclid, bit_at}
use Rattle.std.proofs.lemmas.Nat.{pow_pos, mod_below, shr_split, and_le_l, or_lt, xor_lt, and-not}
use Rattle.std.proofs.lemmas.Nat.Bits.{bit_at_and, bit_at_or, bit_at_xor, bit_at-lt, bit_at_cat_low, and_pow, same_from_bits_below}
use Rattle.std.proofs.lemmas.Nat.{pow_below}
use Rattle.p414_sem.specs.Wholes.{wrapped as wrap, complement as not_ℤ, and_ℤ, or_ℤ, xor_ℤ, without}
use Rattle.v1_core.specs.Numbers.{sum_of, difference, complemented}

pub wrap_below : (w : ℕ) (z : ℤ) → wrap w z < 2 ^ w
wrap_below w (pos n) = mod_below n (2 ^ w) (pow_pos w)
wrap_below w (negsuc n) = omega (arith, mod_below n (2 ^ w) (pow_pos w), pow_pos w)

-- a natural number that is z and so many times n
lifted : (n : ℕ) → 0 < n → (z : ℤ) → (k : ℕ) × (m : ℕ) × (z +ℤ pos (k * n) ≡ pos m)
lifted n h (pos a) = let e : a + 0 * n ≡ a = omega arith in (0, a, ap pos e)
lifted n h (negsuc a) = (suc a, suc a * n - suc a, raised n a h)
  where
    raised : (n a : ℕ) → 0 < n → negsuc a +ℤ pos (suc a * n) ≡ pos (suc a * n - suc a)
    raised zero a h = elim h [ ]
    raised (suc n) a h = let le : suc a ≤ suc a * suc n = omega arith in omega (arith, ints)

wrap_euclid : (w : ℕ) (z : ℤ) → int_rem_euclid z (pos (2 ^ w)) ≡ pos (wrap w z)
wrap_euclid w (pos n) = refl
wrap_euclid w (negsuc n) = refl

pos_same : (a b : ℕ) → pos a ≡ pos b → a ≡ b
pos_same a b e = cc

lifted_wrap : (w : ℕ) (z : ℤ) (k m : ℕ) → z +ℤ pos (k * 2 ^ w) ≡ pos m → wrap w z ≡ m % 2 ^ w
lifted_wrap w z k m e = pos_same _ _ (sym (wrap_euclid w z) ∙ int_rem_euclid_is z (pos (2 ^ w)) (2 ^ w) k m (pow_pos w) refl e)

both_lifted : (n : ℕ) (x y : ℤ) (a b k m : ℕ) → x +ℤ pos (a * n) ≡ pos k → y +ℤ pos (b * n) ≡ pos m → (x +ℤ y) +ℤ pos ((a + b) * n) ≡ pos (k + m)
both_lifted n x y a b k m e f = omega (arith, ints, e, f)

pub wrap_add : (w : ℕ) (x y : ℤ) → (wrap w x + wrap w y) % 2 ^ w ≡ wrap w (x +ℤ y)
wrap_add w x y =
    let a = lifted (2 ^ w) (pow_pos w) x in
    let b = lifted (2 ^ w) (pow_pos w) y in
    ap₂ (λ p q. (p + q) % 2 ^ w) (lifted_wrap w x a.0 a.1 a.2) (lifted_wrap w y b.0 b.1 b.2)
    ∙ sym (add-mod a.1 b.1 (2 ^ w))
    ∙ sym (lifted_wrap w (x +ℤ y) (a.0 + b.0) (a.1 + b.1) (both_lifted (2 ^ w) x y a.0 b.0 a.1 b.1 a.2 b.2))

pub wrap_not : (w : ℕ) (x : ℤ) → 2 ^ w - 1 - wrap w x ≡ wrap w (not_ℤ x)
wrap_not w (pos n) = refl
wrap_not w (negsuc n) = omega (arith, mod_below n (2 ^ w) (pow_pos w))

sub_is : (x y : ℤ) → (x +ℤ not_ℤ y) +ℤ pos 1 ≡ x -ℤ y
sub_is x (pos b) = omega (arith, ints)
sub_is x (negsuc b) = omega (arith, ints)

pub wrap_sub : (w : ℕ) (x y : ℤ) → (wrap w x + (2 ^ w - wrap w y)) % 2 ^ w ≡ wrap w (x -ℤ y)
wrap_sub w x y =
    let e : wrap w x + (2 ^ w - wrap w y) ≡ wrap w x + (2 ^ w - 1 - wrap w y) + 1 = omega (arith, wrap_below w y) in
    ap (λ p. p % 2 ^ w) e
    ∙ ap (λ p. (wrap w x + p + 1) % 2 ^ w) (wrap_not w y)
    ∙ add-mod (wrap w x + wrap w (not_ℤ y)) 1 (2 ^ w)
    ∙ ap (λ p. (p + 1 % 2 ^ w) % 2 ^ w) (wrap_add w x (not_ℤ y))
    ∙ wrap_add w (x +ℤ not_ℤ y) (pos 1)
    ∙ ap (wrap w) (sub_is x y)

-- bit i of a whole number
abbrev bit_of : ℤ → ℕ → ℕ
bit_of (pos n) i = bit_at n i
bit_of (negsuc n) i = 1 - bit_at n i

bit_of_below : (z : ℤ) (i : ℕ) → bit_of z i < 2
bit_of_below (pos n) i = bit_at-lt n i
bit_of_below (negsuc n) i = omega arith

bit_of_mod : (w n i : ℕ) → i < w → bit_at (n % 2 ^ w) i ≡ bit_at n i
bit_of_mod w n i h = sym (bit_at_cat_low (n / 2 ^ w) w (n % 2 ^ w) i h) ∙ ap (λ m. bit_at m i) (shr_split n w)

cancelled : (a b p : ℕ) → 0 < p → a * p + b * p ≡ p → a ≡ 1 - b
cancelled a b p h e =
    let m : (a + b) * p ≡ 1 * p = omega (arith, e) in
    let sum : a + b ≡ 1 = sym (mul-div_cancel (a + b) h) ∙ ap (λ n. n / p) m ∙ mul-div_cancel 1 h in
    omega arith

bit_of_ones : (w m i : ℕ) → i < w → m < 2 ^ w → bit_at (2 ^ w - 1 - m) i ≡ 1 - bit_at m i
bit_of_ones w m i h lt =
    cancelled (bit_at (2 ^ w - 1 - m) i) (bit_at m i) (2 ^ i) (pow_pos i)
    (ap₂ (λ p q. p + q) (sym (and_pow (2 ^ w - 1 - m) i)) (sym (and_pow m i)) ∙ and-not w m (2 ^ i) lt (pow_below i w h))

bit_of_wrap : (w : ℕ) (z : ℤ) (i : ℕ) → i < w → bit_at (wrap w z) i ≡ bit_of z i
bit_of_wrap w (pos n) i h = bit_of_mod w n i h
bit_of_wrap w (negsuc n) i h = bit_of_ones w (n % 2 ^ w) i h (mod_below n (2 ^ w) (pow_pos w)) ∙ ap (λ b. 1 - b) (bit_of_mod w n i h)

bit_of_not : (z : ℤ) (i : ℕ) → bit_of (not_ℤ z) i ≡ 1 - bit_of z i
bit_of_not (pos n) i = refl
bit_of_not (negsuc n) i = omega (arith, bit_at-lt n i)

without_bit : (a b i : ℕ) → bit_at (without a b) i ≡ min (bit_at a i) (1 - bit_at b i)
without_bit a b i =
    bit_at_xor a (bit_and a b) i ∙ ap (λ c. (bit_at a i + c) % 2) (bit_at_and a b i) ∙ cases (bit_at a i) (bit_at b i) (bit_at-lt a i) (bit_at-lt b i)
  where
    cases : (x y : ℕ) → x < 2 → y < 2 → (x + min x y) % 2 ≡ min x (1 - y)
    cases x y p q = omega arith

bit_of_and : (x y : ℤ) (i : ℕ) → bit_of (and_ℤ x y) i ≡ min (bit_of x i) (bit_of y i)
bit_of_and (pos a) (pos b) i = bit_at_and a b i
bit_of_and (pos a) (negsuc b) i = without_bit a b i
bit_of_and (negsuc a) (pos b) i = omega (arith, without_bit b a i)
bit_of_and (negsuc a) (negsuc b) i = omega (arith, bit_at_or a b i, bit_at-lt a i, bit_at-lt b i)

pub wrap_and : (w : ℕ) (x y : ℤ) → bit_and (wrap w x) (wrap w y) ≡ wrap w (and_ℤ x y)
wrap_and w x y =
    same_from_bits_below w _ _ (omega (arith, and_le_l (wrap w x) (wrap w y), wrap_below w x)) (wrap_below w (and_ℤ x y))
    (λ i h. bit_at_and (wrap w x) (wrap w y) i ∙ ap₂ min (bit_of_wrap w x i h) (bit_of_wrap w y i h) ∙ sym (bit_of_and x y i) ∙ sym (bit_of_wrap w (and_ℤ x y) i h))

bit_of_or : (x y : ℤ) (i : ℕ) → bit_of (or_ℤ x y) i ≡ max (bit_of x i) (bit_of y i)
bit_of_or x y i = omega (arith, bit_of_not (and_ℤ (not_ℤ x) (not_ℤ y)) i, bit_of_and (not_ℤ x) (not_ℤ y) i, bit_of_not x i, bit_of_not y i, bit_of_below x i, bit_of_below y i)

pub wrap_or : (w : ℕ) (x y : ℤ) → bit_or (wrap w x) (wrap w y) ≡ wrap w (or_ℤ x y)
wrap_or w x y =
    same_from_bits_below w _ _ (or_lt w (wrap w x) (wrap w y) (wrap_below w x) (wrap_below w y)) (wrap_below w (or_ℤ x y))
    (λ i h. bit_at_or (wrap w x) (wrap w y) i ∙ ap₂ max (bit_of_wrap w x i h) (bit_of_wrap w y i h) ∙ sym (bit_of_or x y i) ∙ sym (bit_of_wrap w (or_ℤ x y) i h))

bit_of_xor : (x y : ℤ) (i : ℕ) → bit_of (xor_ℤ x y) i ≡ (bit_of x i + bit_of y i) % 2
bit_of_xor (pos a) (pos b) i = bit_at_xor a b i
bit_of_xor (pos a) (negsuc b) i = omega (arith, bit_at_xor a b i, bit_at-lt a i, bit_at-lt b i)
bit_of_xor (negsuc a) (pos b) i = omega (arith, bit_at_xor a b i, bit_at-lt a i, bit_at-lt b i)
bit_of_xor (negsuc a) (negsuc b) i = omega (arith, bit_at_xor a b i, bit_at-lt a i, bit_at-lt b i)

pub wrap_xor : (w : ℕ) (x y : ℤ) → bit_xor (wrap w x) (wrap w y) ≡ wrap w (xor_ℤ x y)
wrap_xor w x y =
    same_from_bits_below w _ _ (xor_lt w (wrap w x) (wrap w y) (wrap_below w x) (wrap_below w y)) (wrap_below w (xor_ℤ x y))
    (λ i h. bit_at_xor (wrap w x) (wrap w y) i ∙ ap₂ (λ p q. (p + q) % 2) (bit_of_wrap w x i h) (bit_of_wrap w y i h) ∙ sym (bit_of_xor x y i) ∙ sym (bit_of_wrap w (xor_ℤ x y) i h))

-- as the operators of P4_16 have it

pub sum_wraps : (w : ℕ) (x y : ℤ) → sum_of w (wrap w x) (wrap w y) ≡ wrap w (x +ℤ y)
sum_wraps = wrap_add

pub difference_wraps : (w : ℕ) (x y : ℤ) → difference w (wrap w x) (wrap w y) ≡ wrap w (x -ℤ y)
difference_wraps w x y =
    let e : wrap w x + 2 ^ w - wrap w y ≡ wrap w x + (2 ^ w - wrap w y) = omega (arith, wrap_below w y) in
    ap (λ p. p % 2 ^ w) e ∙ wrap_sub w x y

pub complement_wraps : (w : ℕ) (x : ℤ) → complemented w (wrap w x) ≡ wrap w (not_ℤ x)
complement_wraps = wrap_not

-- a number that fits is kept
pub wrap_fits : (w n : ℕ) → n < 2 ^ w → wrap w (pos n) ≡ n
wrap_fits w n lt = mod-eq_of_lt lt
