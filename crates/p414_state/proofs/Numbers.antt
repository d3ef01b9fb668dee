-- The numbers of fields that lie side by side.
use Rattle.std.proofs.Common.{◌≡◌, ℕ, zero, suc, ◌+◌, ◌-◌, ◌*◌, ◌^◌, ◌<◌, ◌≤◌, Bool, List, [], ◌∷◌, ◌++◌, length, take, drop, get_or, set, replicate, refl, sym, ap, ◌∙◌, arith, length-take-le, length-drop, append_assoc, drop-drop, pow_pos, take-append-drop}
use Rattle.std.proofs.Math.Nat.{zero-mul}
use Rattle.std.proofs.lemmas.List.{drop_at, drop-append-le, take-take, drop-take}
use Rattle.p4x_bits.specs.BitLists.{num, bits, octet_bits}
use Rattle.p4x_bits.proofs.BitLists.{length-bits, num-append, num-bits, num_of_take_below, take-octet_bits}
use Rattle.p4x_bits.proofs.Windows.{written, window_written, window_before}
use Rattle.p414_sem.specs.Packing.{numbers_in}
use Rattle.p414_layout.specs.Placed.{total, bits_before}

pub length-numbers_in : (widths : List ℕ) (xs : List Bool) → length (numbers_in widths xs) ≡ length widths
length-numbers_in [] xs = refl
length-numbers_in (w ∷ widths) xs = ap suc (length-numbers_in widths (drop w xs))

-- a field's number is that of its bits
pub number_at : (widths : List ℕ) (xs : List Bool) (i : ℕ) → i < length widths → get_or (numbers_in widths xs) i 0 ≡ num (take (get_or widths i 0) (drop (bits_before widths i) xs))
number_at [] xs i lt = absurd (omega arith)
number_at (w ∷ widths) xs zero lt = refl
number_at (w ∷ widths) xs (suc i) lt =
    number_at widths (drop w xs) i (omega arith)
    ∙ ap (λ (l : List Bool). num (take (get_or widths i 0) l)) (drop-drop (bits_before widths i) w xs)

-- and is below 2 ^ width
pub number_fits : (widths : List ℕ) (xs : List Bool) (i : ℕ) → i < length widths → get_or (numbers_in widths xs) i 0 < 2 ^ get_or widths i 0
number_fits widths xs i lt = rw (number_at widths xs i lt) (num_of_take_below (get_or widths i 0) (drop (bits_before widths i) xs))

-- a write behind a front is one behind what is dropped of it
pub drop_written : (w at width value : ℕ) (xs : List Bool) → (w + at) + width ≤ length xs → drop w (written (w + at) width value xs) ≡ written at width value (drop w xs)
drop_written w at width value xs le =
    let front = take (w + at) xs in
    let behind = drop ((w + at) + width) xs in
    let new = bits width value in
    let long : length front ≡ w + at = length-take-le (w + at) xs (omega arith) in
    let split : (w + at) + width ≡ w + (at + width) = omega arith in
    ap (drop w) (append_assoc front new behind)
    ∙ drop-append-le w front (new ++ behind) (omega arith)
    ∙ ap (λ (l : List Bool). l ++ (new ++ behind)) (drop-take w at xs)
    ∙ ap (λ (l : List Bool). take at (drop w xs) ++ (new ++ l)) (ap (λ (n : ℕ). drop n xs) split ∙ sym (drop-drop (at + width) w xs))
    ∙ sym (append_assoc (take at (drop w xs)) new (drop (at + width) (drop w xs)))

-- what stands behind a write at the front is what stood there
pub drop_first : (width value : ℕ) (xs : List Bool) → drop width (written 0 width value xs) ≡ drop width xs
drop_first width value xs =
    let plain : 0 + width ≡ width = omega arith in
    ap (λ (n : ℕ). drop width (bits width value ++ drop n xs)) plain
    ∙ drop_at (bits width value) (drop width xs) width (length-bits width value)

-- a number that is written into a field's bits is that field's number, and the others stay
pub number_put : (widths : List ℕ) (xs : List Bool) (i value : ℕ) → i < length widths → bits_before widths i + get_or widths i 0 ≤ length xs → value < 2 ^ get_or widths i 0 → numbers_in widths (written (bits_before widths i) (get_or widths i 0) value xs) ≡ set (numbers_in widths xs) i value
number_put [] xs i value lt le fits = absurd (omega arith)
number_put (w ∷ widths) xs zero value lt le fits =
    ap (λ (n : ℕ). n ∷ numbers_in widths (drop w (written 0 w value xs))) (window_written 0 w value xs (omega arith) fits)
    ∙ ap (λ (l : List Bool). value ∷ numbers_in widths l) (drop_first w value xs)
number_put (w ∷ widths) xs (suc i) value lt le fits =
    let at = bits_before widths i in
    let width = get_or widths i 0 in
    let within : (w + at) + width ≤ length xs = le in
    let left : at + width ≤ length (drop w xs) = omega (arith, length-drop w xs) in
    let front : take w (written (w + at) width value xs) ≡ take w xs = window_before (w + at) width value 0 w xs (omega arith) (omega arith) in
    ap (λ (l : List Bool). num l ∷ numbers_in widths (drop w (written (w + at) width value xs))) front
    ∙ ap (λ (l : List Bool). num (take w xs) ∷ numbers_in widths l) (drop_written w at width value xs within)
    ∙ ap (λ (l : List ℕ). num (take w xs) ∷ l) (number_put widths (drop w xs) i value (omega arith) left fits)

-- only so many bits tell the numbers
pub numbers_of_front : (widths : List ℕ) (n : ℕ) (xs : List Bool) → total widths ≤ n → numbers_in widths (take n xs) ≡ numbers_in widths xs
numbers_of_front [] n xs le = refl
numbers_of_front (w ∷ widths) n xs le =
    let m = n - w in
    let split : w + m ≡ n = omega arith in
    let rest : drop w (take n xs) ≡ take m (drop w xs) = ap (λ (k : ℕ). drop w (take k xs)) (sym split) ∙ drop-take w m xs in
    ap (λ (l : List Bool). num l ∷ numbers_in widths (drop w (take n xs))) (take-take w n xs (omega arith))
    ∙ ap (λ (l : List Bool). num (take w xs) ∷ numbers_in widths l) rest
    ∙ ap (λ (l : List ℕ). num (take w xs) ∷ l) (numbers_of_front widths m (drop w xs) (omega arith))

-- the same of octets
pub numbers_of_octets : (widths : List ℕ) (n : ℕ) (octets : List ℕ) → total widths ≤ 8 * n → numbers_in widths (octet_bits (take n octets)) ≡ numbers_in widths (octet_bits octets)
numbers_of_octets widths n octets le =
    ap (numbers_in widths) (sym (take-octet_bits n octets)) ∙ numbers_of_front widths (8 * n) (octet_bits octets) le

-- bits that are all 0

no_product : (a b n : ℕ) → 0 < n → a * n + b ≡ 0 → (a ≡ 0) × (b ≡ 0)
no_product zero b n h e = (refl, omega arith)
no_product (suc a) b n h e = absurd (omega arith)

-- of a number that is 0 each part is 0
both_zero : (n : ℕ) (xs : List Bool) → num xs ≡ 0 → (num (take n xs) ≡ 0) × (num (drop n xs) ≡ 0)
both_zero n xs e =
    let whole : num (take n xs) * 2 ^ length (drop n xs) + num (drop n xs) ≡ 0 =
    sym (num-append (take n xs) (drop n xs)) ∙ ap num (take-append-drop n xs) ∙ e in
    no_product (num (take n xs)) (num (drop n xs)) (2 ^ length (drop n xs)) (pow_pos (length (drop n xs))) whole

pub numbers_zero : (widths : List ℕ) (xs : List Bool) → num xs ≡ 0 → numbers_in widths xs ≡ replicate (length widths) 0
numbers_zero [] xs e = refl
numbers_zero (w ∷ widths) xs e =
    ap (λ (n : ℕ). n ∷ numbers_in widths (drop w xs)) (both_zero w xs e).0
    ∙ ap (λ (l : List ℕ). 0 ∷ l) (numbers_zero widths (drop w xs) (both_zero w xs e).1)

num_of_none : num [] ≡ 0
unfolding num
num_of_none = refl

octets_zero : (n : ℕ) → num (octet_bits (replicate n 0)) ≡ 0
octets_zero zero = num_of_none
octets_zero (suc n) =
    let rest = octet_bits (replicate n 0) in
    let e : num (bits 8 0 ++ rest) ≡ 0 * 2 ^ length rest + num rest =
    num-append (bits 8 0) rest ∙ ap (λ (k : ℕ). k * 2 ^ length rest + num rest) (num-bits 8 0) in
    let z : 0 * 2 ^ length rest ≡ 0 = zero-mul (2 ^ length rest) in
    let left : num rest ≡ 0 = octets_zero n in
    e ∙ omega arith

pub numbers_of_zeros : (widths : List ℕ) (n : ℕ) → numbers_in widths (octet_bits (replicate n 0)) ≡ replicate (length widths) 0
numbers_of_zeros widths n = numbers_zero widths (octet_bits (replicate n 0)) (octets_zero n)
