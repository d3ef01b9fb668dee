-- Laws of bit lists and their numbers.
use Rattle.std.proofs.Common.{◌≡◌, ℕ, zero, suc, ◌+◌, ◌*◌, ◌/◌, ◌%◌, ◌^◌, ◌<◌, ◌≤◌, Bool, true, false, nat_eq, List, [], ◌∷◌, ◌++◌, length, take, drop, get_or, Fits, w8, subst, refl, sym, ap, ◌∙◌, arith, length-append, append_assoc, pow_pos, pow-suc, pow_mono, mod-eq_of_lt, take-add, drop-drop, length-take}
use Rattle.std.proofs.Math.Nat.{mul-add-div_right}
use Rattle.std.proofs.lemmas.Nat.{pow-add, mod-pow-add, shr_high, div-add-mod'}
use Rattle.std.proofs.lemmas.List.{take_at, drop_at, take_all, drop_all, get_or_default}
use Rattle.p4x_bits.specs.BitLists.{bit, num, bits, octet_bits, IsOctets}

bit_of_parity : (k : ℕ) → k < 2 → bit (nat_eq k 1) ≡ k
bit_of_parity zero h = refl
bit_of_parity (suc zero) h = refl
bit_of_parity (suc (suc k)) h = absurd (omega arith)

parity_of_bit : (b : Bool) → nat_eq (bit b) 1 ≡ b
parity_of_bit false = refl
parity_of_bit true = refl

bit_below : (b : Bool) → bit b < 2
bit_below false = omega arith
bit_below true = omega arith

pub length-bits : (w n : ℕ) → length (bits w n) ≡ w
unfolding bits
length-bits zero n = refl
length-bits (suc w) n = ap suc (length-bits w n)

pub num-append : (xs ys : List Bool) → num (xs ++ ys) ≡ num xs * 2 ^ length ys + num ys
unfolding num
num-append [] ys = omega arith
num-append (b ∷ xs) ys = rw (length-append xs ys, pow-add 2 (length xs) (length ys), num-append xs ys) (omega arith)

-- the number of so many bits is below 2 to their count
pub num_below : (xs : List Bool) → num xs < 2 ^ length xs
unfolding num
num_below [] = omega arith
num_below (false ∷ xs) = rw (pow-suc 2 (length xs)) (omega (arith, num_below xs))
num_below (true ∷ xs) = rw (pow-suc 2 (length xs)) (omega (arith, num_below xs))

pub num-bits : (w n : ℕ) → num (bits w n) ≡ n % 2 ^ w
unfolding num bits
num-bits zero n = omega arith
num-bits (suc w) n =
    let odd : bit (nat_eq (n / 2 ^ w % 2) 1) ≡ n / 2 ^ w % 2 = bit_of_parity (n / 2 ^ w % 2) (omega arith) in
    let e : 1 + w ≡ suc w = omega arith in
    rw (length-bits w n, num-bits w n, odd) (sym (mod-pow-add n 1 w) ∙ ap (λ (k : ℕ). n % 2 ^ k) e)

-- what stands above the bits of a list doesn't show in it
pub bits_of_low : (w high n : ℕ) → bits w (high * 2 ^ w + n) ≡ bits w n
unfolding bits
bits_of_low zero high n = refl
bits_of_low (suc w) high n =
    let e : high * 2 ^ suc w + n ≡ high * 2 * 2 ^ w + n = rw (pow-suc 2 w) (omega arith) in
    let q : (high * 2 * 2 ^ w + n) / 2 ^ w ≡ high * 2 + n / 2 ^ w = mul-add-div_right (pow_pos w) (high * 2) n in
    let m : (high * 2 + n / 2 ^ w) % 2 ≡ n / 2 ^ w % 2 = omega arith in
    rw (e, q, m, bits_of_low w (high * 2) n)

pub bits-mod : (w n : ℕ) → bits w (n % 2 ^ w) ≡ bits w n
bits-mod w n = sym (bits_of_low w (n / 2 ^ w) (n % 2 ^ w)) ∙ ap (bits w) (div-add-mod' n (2 ^ w))

bits_of_length : (xs : List Bool) → bits (length xs) (num xs) ≡ xs
unfolding bits num
bits_of_length [] = refl
bits_of_length (b ∷ xs) =
    let q : (bit b * 2 ^ length xs + num xs) / 2 ^ length xs ≡ bit b = shr_high (bit b) (length xs) (num xs) (num_below xs) in
    let m : bit b % 2 ≡ bit b = mod-eq_of_lt (bit_below b) in
    rw (q, m, parity_of_bit b, bits_of_low (length xs) (bit b) (num xs), bits_of_length xs)

-- a bit list is that of its number
pub bits-num : (w : ℕ) (xs : List Bool) → length xs ≡ w → bits w (num xs) ≡ xs
bits-num w xs h = ap (λ (k : ℕ). bits k (num xs)) (sym h) ∙ bits_of_length xs

-- the first bits of a number are those of its quotient, and the others those of its remainder
pub bits-add : (v w n : ℕ) → bits (v + w) n ≡ bits v (n / 2 ^ w) ++ bits w n
bits-add v w n =
    let high = bits v (n / 2 ^ w) in
    let e : num (high ++ bits w n) ≡ n % 2 ^ (v + w) = num-append high (bits w n) ∙ rw (length-bits w n, num-bits v (n / 2 ^ w), num-bits w n) (sym (mod-pow-add n v w)) in
    let l : length (high ++ bits w n) ≡ v + w = length-append high (bits w n) ∙ rw (length-bits v (n / 2 ^ w), length-bits w n) in
    sym (bits-mod (v + w) n) ∙ ap (bits (v + w)) (sym e) ∙ bits-num (v + w) (high ++ bits w n) l

-- two lists one behind the other are the list of one number
pub bits-append : (v w m n : ℕ) → n < 2 ^ w → bits v m ++ bits w n ≡ bits (v + w) (m * 2 ^ w + n)
bits-append v w m n h = sym (bits-add v w (m * 2 ^ w + n) ∙ rw (shr_high m w n h, bits_of_low w m n))

pub take-bits : (v w n : ℕ) → take v (bits (v + w) n) ≡ bits v (n / 2 ^ w)
take-bits v w n = rw (bits-add v w n) (take_at (bits v (n / 2 ^ w)) (bits w n) v (length-bits v (n / 2 ^ w)))

pub drop-bits : (v w n : ℕ) → drop v (bits (v + w) n) ≡ bits w n
drop-bits v w n = rw (bits-add v w n) (drop_at (bits v (n / 2 ^ w)) (bits w n) v (length-bits v (n / 2 ^ w)))

-- two bit lists of one length and one number are one
pub same_bits : (xs ys : List Bool) → length xs ≡ length ys → num xs ≡ num ys → xs ≡ ys
same_bits xs ys l n = sym (bits-num (length ys) xs l) ∙ ap (bits (length ys)) n ∙ bits-num (length ys) ys refl

pub octet_bits-append : (xs ys : List ℕ) → octet_bits (xs ++ ys) ≡ octet_bits xs ++ octet_bits ys
octet_bits-append [] ys = refl
octet_bits-append (x ∷ xs) ys = ap (λ zs. bits 8 x ++ zs) (octet_bits-append xs ys) ∙ sym (append_assoc (bits 8 x) (octet_bits xs) (octet_bits ys))

pub length-octet_bits : (xs : List ℕ) → length (octet_bits xs) ≡ 8 * length xs
length-octet_bits [] = refl
length-octet_bits (x ∷ xs) = length-append (bits 8 x) (octet_bits xs) ∙ rw (length-bits 8 x, length-octet_bits xs) (omega arith)

pub take-octet_bits : (k : ℕ) (xs : List ℕ) → take (8 * k) (octet_bits xs) ≡ octet_bits (take k xs)
take-octet_bits zero xs = refl
take-octet_bits (suc k) [] = take_all (8 * suc k) (octet_bits []) (omega arith)
take-octet_bits (suc k) (x ∷ xs) =
    let e : 8 * suc k ≡ 8 + 8 * k = omega arith in
    ap (λ (n : ℕ). take n (bits 8 x ++ octet_bits xs)) e
    ∙ take-add 8 (8 * k) (bits 8 x ++ octet_bits xs)
    ∙ rw (take_at (bits 8 x) (octet_bits xs) 8 (length-bits 8 x), drop_at (bits 8 x) (octet_bits xs) 8 (length-bits 8 x), take-octet_bits k xs)

pub drop-octet_bits : (k : ℕ) (xs : List ℕ) → drop (8 * k) (octet_bits xs) ≡ octet_bits (drop k xs)
drop-octet_bits zero xs = refl
drop-octet_bits (suc k) [] = drop_all (8 * suc k) (octet_bits []) (omega arith)
drop-octet_bits (suc k) (x ∷ xs) =
    let e : 8 * suc k ≡ 8 + 8 * k = omega arith in
    ap (λ (n : ℕ). drop n (bits 8 x ++ octet_bits xs)) e
    ∙ sym (drop-drop (8 * k) 8 (bits 8 x ++ octet_bits xs))
    ∙ rw (drop_at (bits 8 x) (octet_bits xs) 8 (length-bits 8 x), drop-octet_bits k xs)

-- an octet is its bits' number
pub octet_is : (x : ℕ) → x < 256 → num (bits 8 x) ≡ x
octet_is x h = num-bits 8 x ∙ mod-eq_of_lt h

-- octets with the same bits are the same
pub same_octets : (xs ys : List ℕ) → IsOctets xs → IsOctets ys → octet_bits xs ≡ octet_bits ys → xs ≡ ys
same_octets [] [] p q e = refl
same_octets [] (y ∷ ys) p q e = absurd (omega (arith, ap length e, length-octet_bits (y ∷ ys)))
same_octets (x ∷ xs) [] p q e = absurd (omega (arith, ap length e, length-octet_bits (x ∷ xs)))
same_octets (x ∷ xs) (y ∷ ys) p q e =
    let front : bits 8 x ≡ bits 8 y = sym (take_at (bits 8 x) (octet_bits xs) 8 (length-bits 8 x)) ∙ ap (take 8) e ∙ take_at (bits 8 y) (octet_bits ys) 8 (length-bits 8 y) in
    let back : octet_bits xs ≡ octet_bits ys = sym (drop_at (bits 8 x) (octet_bits xs) 8 (length-bits 8 x)) ∙ ap (drop 8) e ∙ drop_at (bits 8 y) (octet_bits ys) 8 (length-bits 8 y) in
    let head : x ≡ y = sym (octet_is x (p 0 0 (omega arith))) ∙ ap num front ∙ octet_is y (q 0 0 (omega arith)) in
    let tail : xs ≡ ys = same_octets xs ys (λ k d h. p (suc k) d (omega arith)) (λ k d h. q (suc k) d (omega arith)) back in
    ap (λ (z : ℕ). z ∷ xs) head ∙ ap (λ zs. y ∷ zs) tail

-- the number of the first bits of a list is below 2 to their count
pub num_of_take_below : (w : ℕ) (xs : List Bool) → num (take w xs) < 2 ^ w
num_of_take_below w xs =
    let short : 2 ^ length (take w xs) ≤ 2 ^ w = pow_mono (omega (arith, length-take w xs)) in
    omega (arith, num_below (take w xs))

-- the items of a slice of octets are octets
pub octets_fit : (xs : List ℕ) → ((i : ℕ) → Fits w8 (get_or xs i 0)) → IsOctets xs
octets_fit xs fits k d h =
    let P : ℕ → Type 0 = λ n. n < 256 in
    subst P (get_or_default xs k 0 d h) (let f : Fits w8 (get_or xs k 0) = fits k in omega arith)
