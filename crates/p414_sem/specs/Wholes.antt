-- Whole numbers, and what a field keeps of one (P4_14 1.0.5, "Primitive Actions", "Field Value Conversions"; that
-- every source is a whole number is this project's own).
use Rattle.std.specs.Prelude.{ℕ, ◌-◌, ◌%◌, ◌^◌, min, ℤ, pos, negsuc, neg_ℤ, Bool, true, false, if◌then◌else◌, bit_and, bit_or, bit_xor}
use Rattle.p414_syntax.specs.declared.parts.Number.{Number}
use Rattle.p414_syntax.specs.Calls.{is_minus_sign}

-- the number that is written, with its sign
abbrev pub whole : Number → ℤ
whole n = if is_minus_sign n.sign then neg_ℤ (pos n.literal.value) else pos n.literal.value

-- a number modulo 2 ^ width
abbrev pub wrapped : ℕ → ℤ → ℕ
wrapped width (pos n) = n % 2 ^ width
wrapped width (negsuc n) = 2 ^ width - 1 - n % 2 ^ width

-- of the numbers from 0 to 2 ^ width - 1 the one that is nearest
abbrev pub nearest : ℕ → ℤ → ℕ
nearest width (pos n) = min n (2 ^ width - 1)
nearest width (negsuc n) = 0

-- what a field of a width keeps of a number: a sum or a difference that is written to a saturating field is the nearest,
-- and everything else is kept modulo 2 ^ width
abbrev pub kept : Bool → ℕ → ℤ → ℕ
kept true width z = nearest width z
kept false width z = wrapped width z

-- a source that isn't negative
abbrev pub natural : ℤ → ℕ
natural (pos n) = n
natural (negsuc n) = 0

-- Bit by bit, where a negative number is taken in two's complement of any length: the bits of -1 - n are those of n
-- turned round.

abbrev pub complement : ℤ → ℤ
complement (pos n) = negsuc n
complement (negsuc n) = pos n

-- the bits of a that b hasn't
abbrev pub without : ℕ → ℕ → ℕ
without a b = bit_xor a (bit_and a b)

abbrev pub and_ℤ : ℤ → ℤ → ℤ
and_ℤ (pos a) (pos b) = pos (bit_and a b)
and_ℤ (pos a) (negsuc b) = pos (without a b)
and_ℤ (negsuc a) (pos b) = pos (without b a)
and_ℤ (negsuc a) (negsuc b) = negsuc (bit_or a b)

abbrev pub or_ℤ : ℤ → ℤ → ℤ
or_ℤ x y = complement (and_ℤ (complement x) (complement y))

abbrev pub xor_ℤ : ℤ → ℤ → ℤ
xor_ℤ (pos a) (pos b) = pos (bit_xor a b)
xor_ℤ (pos a) (negsuc b) = negsuc (bit_xor a b)
xor_ℤ (negsuc a) (pos b) = negsuc (bit_xor a b)
xor_ℤ (negsuc a) (negsuc b) = pos (bit_xor a b)

-- the bits of a source on a mask, and those of the target elsewhere
abbrev pub masked : ℤ → ℤ → ℤ → ℤ
masked target source mask = or_ℤ (and_ℤ target (complement mask)) (and_ℤ source mask)
