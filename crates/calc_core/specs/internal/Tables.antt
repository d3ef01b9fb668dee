-- What the tables of the CRCs hold: remainders as numbers, whose least significant bit is the coefficient of the
-- highest power (this project's own).
use Rattle.std.specs.Prelude.{ℕ, zero, suc, ◌/◌, ◌%◌, Bool, true, false, if◌then◌else◌, nat_eq, List, [], ◌∷◌, bit_xor}

-- the least significant bit is 1
abbrev pub is_odd : ℕ → Bool
is_odd n = nat_eq (n % 2) 1

-- the number, or 0
abbrev pub times : Bool → ℕ → ℕ
times false n = 0
times true n = n

-- a remainder with one more coefficient divided away; the divisor is a number in the same order
abbrev pub divided_once : ℕ → ℕ → ℕ
divided_once divisor n = bit_xor (n / 2) (times (is_odd n) divisor)

-- a remainder with so many coefficients divided away
unfoldable pub divided : ℕ → ℕ → ℕ → ℕ
divided zero divisor n = n
divided (suc count) divisor n = divided count divisor (divided_once divisor n)

-- a remainder with the eight coefficients of an octet divided away: the octet is added to its first coefficients
abbrev pub divided_octet : ℕ → ℕ → ℕ → ℕ
divided_octet divisor n octet = divided 8 divisor (bit_xor n octet)

-- each entry, from a number on, is that number with eight coefficients divided away
unfoldable pub is_table_from : ℕ → ℕ → List ℕ → Bool
is_table_from divisor i [] = true
is_table_from divisor i (entry ∷ table) =
    if nat_eq entry (divided 8 divisor i) then is_table_from divisor (suc i) table else false
