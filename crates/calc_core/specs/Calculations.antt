-- The algorithms of a field list calculation (P4_14 1.0.5, "Checksums and Hash-value Generators"; v1model's
-- HashAlgorithm). How a list is filled, and the parameters of the two CRCs, are this project's own.
use Rattle.std.specs.Prelude.{ℕ, zero, suc, ◌+◌, ◌-◌, ◌/◌, ◌%◌, ◌^◌, Bool, true, false, if◌then◌else◌, List, [], ◌∷◌, ◌++◌, length, take, drop, replicate, map, reverse, fold, flat_map, bit_xor}
use Rattle.p4x_bits.specs.BitLists.{num, bits}

-- a list cut into so many parts of a width
abbrev pub parts : ℕ → ℕ → List Bool → List (List Bool)
parts zero width list = []
parts (suc count) width list = take width list ∷ parts count width (drop width list)

-- a list cut into words of a width; bits that are missing at the end are 0
abbrev pub words : ℕ → List Bool → List (List Bool)
words width list = parts ((length list + (width - 1)) / width) width (list ++ replicate width false)

-- the ones' complement sum of two words of 16 bits: what is carried out is added at the low end
abbrev pub ones_sum : ℕ → ℕ → ℕ
ones_sum a b = (a + b) % 2 ^ 16 + (a + b) / 2 ^ 16

-- the complement of the ones' complement sum of the words of 16 bits
abbrev pub csum16 : List Bool → ℕ
csum16 list = 2 ^ 16 - 1 - fold ones_sum 0 (map num (words 16 list))

-- the sum of two coefficients, over the field of two elements
abbrev pub differs : Bool → Bool → Bool
differs false b = b
differs true false = true
differs true true = false

-- a polynomial, its highest coefficient first, with others added to its first coefficients
abbrev pub plus : List Bool → List Bool → List Bool
plus [] ys = []
plus (x ∷ xs) [] = x ∷ xs
plus (x ∷ xs) (y ∷ ys) = differs x y ∷ plus xs ys

-- what a polynomial leaves when so many of its coefficients are divided away, where the divisor has the highest
-- coefficient 1 and these behind it
abbrev pub remainder : ℕ → List Bool → List Bool → List Bool
remainder zero divisor list = list
remainder (suc count) divisor [] = []
remainder (suc count) divisor (b ∷ rest) = remainder count divisor (if b then plus rest divisor else rest)

-- the bits in the order of a reflected CRC: those of each octet from the least significant one on
abbrev pub reflected : List Bool → List Bool
reflected list = flat_map reverse (words 8 list)

-- A reflected CRC of n coefficients: zeros are put behind the message, the initial value is added at its front, and it
-- is divided. The remainder's first coefficient is its number's least significant bit.
abbrev pub crc : List Bool → List Bool → List Bool → ℕ
crc divisor initial message =
    num (reverse (remainder (length message) divisor (plus (message ++ replicate (length divisor) false) initial)))

-- polynomial 0x8005, reflected, initial and final value 0
abbrev pub crc16 : List Bool → ℕ
crc16 list = crc (bits 16 0x8005) (replicate 16 false) (reflected list)

-- polynomial 0x04C11DB7, reflected, initial value all ones, and all ones added to the result
abbrev pub crc32 : List Bool → ℕ
crc32 list = bit_xor (crc (bits 32 0x04C11DB7) (replicate 32 true) (reflected list)) 0xFFFFFFFF

-- the number of the last 128 bits, or of all if there are fewer
abbrev pub identity : List Bool → ℕ
identity list = num (drop (length list - 128) list)
