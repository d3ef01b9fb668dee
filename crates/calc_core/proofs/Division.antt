-- Polynomial division, one coefficient of the message after the other.
use Rattle.std.proofs.Common.{◌≡◌, ℕ, zero, suc, ◌+◌, ◌*◌, ◌/◌, ◌%◌, ◌^◌, ◌<◌, Bool, true, false, cond, nat_eq, List, [], ◌∷◌, ◌++◌, length, replicate, reverse, fold, bit_xor, refl, sym, ap, ◌∙◌, arith, length-append}
use Rattle.std.proofs.lemmas.List.{length-reverse, reverse-append}
use Rattle.std.specs.Int.Bits.{xor_block, xor_zero_r}
use Rattle.p4x_bits.specs.BitLists.{bit, num}
use Rattle.p4x_bits.proofs.BitLists.{num-append, num_below}
use Rattle.calc_core.specs.Calculations.{differs, plus, remainder, crc}
use Rattle.calc_core.specs.internal.Tables.{is_odd, times}

differs_assoc : (a b c : Bool) → differs (differs a b) c ≡ differs a (differs b c)
differs_assoc false b c = refl
differs_assoc true false c = refl
differs_assoc true true false = refl
differs_assoc true true true = refl

differs-false : (a : Bool) → differs a false ≡ a
differs-false false = refl
differs-false true = refl

plus-nil : (xs : List Bool) → plus xs [] ≡ xs
plus-nil [] = refl
plus-nil (x ∷ xs) = refl

length-plus : (xs ys : List Bool) → length (plus xs ys) ≡ length xs
length-plus [] ys = refl
length-plus (x ∷ xs) [] = refl
length-plus (x ∷ xs) (y ∷ ys) = ap suc (length-plus xs ys)

-- a zero behind what is added changes nothing
plus_zero_behind : (xs ys : List Bool) → plus xs (ys ++ false ∷ []) ≡ plus xs ys
plus_zero_behind [] ys = refl
plus_zero_behind (x ∷ xs) [] = ap (λ y. y ∷ plus xs []) (differs-false x) ∙ ap (λ ys. x ∷ ys) (plus-nil xs)
plus_zero_behind (x ∷ xs) (y ∷ ys) = ap (λ zs. differs x y ∷ zs) (plus_zero_behind xs ys)

plus_twice : (xs ys zs : List Bool) → length ys ≡ length zs → plus (plus xs ys) zs ≡ plus xs (plus ys zs)
plus_twice [] ys zs e = refl
plus_twice (x ∷ xs) [] [] e = refl
plus_twice (x ∷ xs) [] (z ∷ zs) e = absurd (omega arith)
plus_twice (x ∷ xs) (y ∷ ys) [] e = absurd (omega arith)
plus_twice (x ∷ xs) (y ∷ ys) (z ∷ zs) e =
    ap (λ w. w ∷ plus (plus xs ys) zs) (differs_assoc x y z) ∙ ap (λ ws. differs x (differs y z) ∷ ws) (plus_twice xs ys zs (omega arith))

zeros_plus : (ys : List Bool) → plus (replicate (length ys) false) ys ≡ ys
zeros_plus [] = refl
zeros_plus (y ∷ ys) = ap (λ zs. y ∷ zs) (zeros_plus ys)

-- the part of the dividend that differs from the message, with one coefficient divided away
pub next : List Bool → List Bool → Bool → List Bool
next divisor [] b = []
next divisor (r ∷ register) b = cond (differs b r) (plus (register ++ false ∷ []) divisor) (register ++ false ∷ [])

pub length-next : (divisor register : List Bool) (b : Bool) → length (next divisor register b) ≡ length register
unfolding next
length-next divisor [] b = refl
length-next divisor (r ∷ register) b = by_case (differs b r)
  where
    by_case : (c : Bool) → length (cond c (plus (register ++ false ∷ []) divisor) (register ++ false ∷ [])) ≡ suc (length register)
    by_case false = length-append register (false ∷ []) ∙ omega arith
    by_case true = length-plus (register ++ false ∷ []) divisor ∙ length-append register (false ∷ []) ∙ omega arith

turn : (divisor rest register message : List Bool) → length (register ++ false ∷ []) ≡ length divisor → ((now : List Bool) → length now ≡ length divisor → remainder (length message) divisor (plus rest now) ≡ fold (next divisor) now message) → (c : Bool) → remainder (length message) divisor (cond c (plus (plus rest register) divisor) (plus rest register)) ≡ fold (next divisor) (cond c (plus (register ++ false ∷ []) divisor) (register ++ false ∷ [])) message
turn divisor rest register message long so false = ap (remainder (length message) divisor) (sym (plus_zero_behind rest register)) ∙ so (register ++ false ∷ []) long
turn divisor rest register message long so true =
    let moved = register ++ false ∷ [] in
    ap (remainder (length message) divisor) (ap (λ xs. plus xs divisor) (sym (plus_zero_behind rest register)) ∙ plus_twice rest moved divisor long)
    ∙ so (plus moved divisor) (length-plus moved divisor ∙ long)

pub remainder_is : (divisor register message : List Bool) → length register ≡ length divisor → zero < length divisor → remainder (length message) divisor (plus (message ++ replicate (length divisor) false) register) ≡ fold (next divisor) register message
unfolding next
remainder_is divisor register [] e pos = ap (λ (n : ℕ). plus (replicate n false) register) (sym e) ∙ zeros_plus register
remainder_is divisor [] (b ∷ message) e pos = absurd (omega arith)
remainder_is divisor (r ∷ register) (b ∷ message) e pos =
    let long : length (register ++ false ∷ []) ≡ length divisor = length-append register (false ∷ []) ∙ omega arith in
    turn divisor (message ++ replicate (length divisor) false) register message long (λ now h. remainder_is divisor now message h pos) (differs b r)

-- the number of a remainder, whose first coefficient is the least significant bit
abbrev pub number : List Bool → ℕ
number register = num (reverse register)

number-cons : (r : Bool) (register : List Bool) → number (r ∷ register) ≡ number register * 2 + bit r
unfolding num
number-cons r register = ap num (reverse-append (r ∷ []) register) ∙ num-append (reverse register) (r ∷ []) ∙ omega arith

number_zero_behind : (register : List Bool) → number (register ++ false ∷ []) ≡ number register
unfolding num
number_zero_behind register = ap num (reverse-append register (false ∷ [])) ∙ omega arith

bit_below : (b : Bool) → bit b < 2
bit_below false = omega arith
bit_below true = omega arith

bit-differs : (x y : Bool) → bit_xor (bit x) (bit y) ≡ bit (differs x y)
bit-differs false false = refl
bit-differs false true = refl
bit-differs true false = refl
bit-differs true true = refl

no_number : number [] ≡ bit_xor (number []) (number [])
unfolding num
no_number = refl

number-plus : (xs ys : List Bool) → length xs ≡ length ys → number (plus xs ys) ≡ bit_xor (number xs) (number ys)
number-plus [] [] e = no_number
number-plus [] (y ∷ ys) e = absurd (omega arith)
number-plus (x ∷ xs) [] e = absurd (omega arith)
number-plus (x ∷ xs) (y ∷ ys) e =
    let both : bit_xor (number xs * 2 + bit x) (number ys * 2 + bit y) ≡ bit_xor (number xs) (number ys) * 2 + bit_xor (bit x) (bit y) = xor_block 1 (number xs) (number ys) (bit x) (bit y) (bit_below x) (bit_below y) in
    number-cons (differs x y) (plus xs ys)
    ∙ ap (λ (n : ℕ). n * 2 + bit (differs x y)) (number-plus xs ys (omega arith))
    ∙ ap (λ (n : ℕ). bit_xor (number xs) (number ys) * 2 + n) (sym (bit-differs x y))
    ∙ sym both
    ∙ ap (λ (n : ℕ). bit_xor n (number ys * 2 + bit y)) (sym (number-cons x xs))
    ∙ ap (bit_xor (number (x ∷ xs))) (sym (number-cons y ys))

-- one step of the division, on numbers
abbrev pub step : ℕ → ℕ → Bool → ℕ
step divisor n b = bit_xor (n / 2) (times (differs b (is_odd n)) divisor)

bit_is_odd : (r : Bool) → nat_eq (bit r) 1 ≡ r
bit_is_odd false = refl
bit_is_odd true = refl

by_case : (divisor register : List Bool) → length (register ++ false ∷ []) ≡ length divisor → (c : Bool) → number (cond c (plus (register ++ false ∷ []) divisor) (register ++ false ∷ [])) ≡ bit_xor (number register) (times c (number divisor))
by_case divisor register e false = number_zero_behind register ∙ sym (xor_zero_r (number register))
by_case divisor register e true = number-plus (register ++ false ∷ []) divisor e ∙ ap (λ (n : ℕ). bit_xor n (number divisor)) (number_zero_behind register)

number-next : (divisor register : List Bool) (b : Bool) → length register ≡ length divisor → zero < length divisor → number (next divisor register b) ≡ step (number divisor) (number register) b
unfolding next
number-next divisor [] b e pos = absurd (omega arith)
number-next divisor (r ∷ register) b e pos =
    let small : bit r < 2 = bit_below r in
    let whole : number (r ∷ register) ≡ number register * 2 + bit r = number-cons r register in
    let half : number (r ∷ register) / 2 ≡ number register = omega arith in
    let low : number (r ∷ register) % 2 ≡ bit r = omega arith in
    let odd : is_odd (number (r ∷ register)) ≡ r = ap (λ (n : ℕ). nat_eq n 1) low ∙ bit_is_odd r in
    let long : length (register ++ false ∷ []) ≡ length divisor = length-append register (false ∷ []) ∙ omega arith in
    by_case divisor register long (differs b r)
    ∙ ap (λ (n : ℕ). bit_xor n (times (differs b r) (number divisor))) (sym half)
    ∙ ap (λ c. bit_xor (number (r ∷ register) / 2) (times (differs b c) (number divisor))) (sym odd)

pub number-fold : (divisor register message : List Bool) → length register ≡ length divisor → zero < length divisor → number (fold (next divisor) register message) ≡ fold (step (number divisor)) (number register) message
number-fold divisor register [] e pos = refl
number-fold divisor register (b ∷ message) e pos =
    number-fold divisor (next divisor register b) message (length-next divisor register b ∙ e) pos
    ∙ ap (λ (n : ℕ). fold (step (number divisor)) n message) (number-next divisor register b e pos)

pub crc_is : (divisor start message : List Bool) → length start ≡ length divisor → zero < length divisor → crc divisor start message ≡ fold (step (number divisor)) (number start) message
crc_is divisor start message e pos = ap number (remainder_is divisor start message e pos) ∙ number-fold divisor start message e pos

length-fold : (divisor register message : List Bool) → length (fold (next divisor) register message) ≡ length register
length-fold divisor register [] = refl
length-fold divisor register (b ∷ message) = length-fold divisor (next divisor register b) message ∙ length-next divisor register b

-- a CRC has as many bits as its divisor has coefficients
pub crc_below : (divisor start message : List Bool) → length start ≡ length divisor → zero < length divisor → crc divisor start message < 2 ^ length divisor
crc_below divisor start message e pos =
    let last = fold (next divisor) start message in
    let long : length (reverse last) ≡ length divisor = length-reverse last ∙ length-fold divisor start message ∙ e in
    let below : number last < 2 ^ length (reverse last) = num_below (reverse last) in
    rw (remainder_is divisor start message e pos) (rw long at below)
