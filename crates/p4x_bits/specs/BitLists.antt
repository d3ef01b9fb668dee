-- Bit lists and their numbers, in the order in which a packet's bits stand on the wire: the most significant bit
-- first.
use Rattle.std.specs.Prelude.{ℕ, zero, suc, ◌+◌, ◌*◌, ◌/◌, ◌%◌, ◌^◌, ◌<◌, Bool, true, false, nat_eq, List, [], ◌∷◌, ◌++◌, length, All}

-- a bit as a number
abbrev pub bit : Bool → ℕ
bit false = 0
bit true = 1

-- the number of a bit list
unfoldable pub num : List Bool → ℕ
num [] = 0
num (b ∷ rest) = bit b * 2 ^ length rest + num rest

-- the list of so many bits whose number is n modulo 2 ^ width
unfoldable pub bits : ℕ → ℕ → List Bool
bits zero n = []
bits (suc width) n = nat_eq (n / 2 ^ width % 2) 1 ∷ bits width n

-- the bits of octets, eight of each
abbrev pub octet_bits : List ℕ → List Bool
octet_bits [] = []
octet_bits (octet ∷ octets) = bits 8 octet ++ octet_bits octets

-- every number is one of an octet
abbrev pub IsOctets : List ℕ → Type 0
IsOctets octets = All (λ octet. octet < 256) octets

-- every number is one of up to 128 bits
abbrev pub IsNumbers : List ℕ → Type 0
IsNumbers numbers = All (λ number. number < 2 ^ 128) numbers
