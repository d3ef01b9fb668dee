-- The bits of a header's fields, first field first (P4_14 1.0.5, "Header Type Declarations"; P4_16 1.2, "Data
-- extraction").
use Rattle.std.specs.Prelude.{ℕ, Bool, List, [], ◌∷◌, ◌++◌, take, drop}
use Rattle.p4x_bits.specs.BitLists.{num, bits}

-- the numbers of fields of these widths, taken from bits in order
abbrev pub numbers_in : List ℕ → List Bool → List ℕ
numbers_in [] rest = []
numbers_in (w ∷ widths) rest = num (take w rest) ∷ numbers_in widths (drop w rest)

-- the bits of fields of these widths with these numbers
abbrev pub bits_in : List ℕ → List ℕ → List Bool
bits_in [] numbers = []
bits_in (w ∷ widths) [] = bits w 0 ++ bits_in widths []
bits_in (w ∷ widths) (n ∷ numbers) = bits w n ++ bits_in widths numbers

-- the octets whose bits these are, where they are whole octets
abbrev pub octets_in : List Bool → List ℕ
octets_in (a ∷ b ∷ c ∷ d ∷ e ∷ f ∷ g ∷ h ∷ rest) = num (a ∷ b ∷ c ∷ d ∷ e ∷ f ∷ g ∷ h ∷ []) ∷ octets_in rest
octets_in _ = []

-- the number 0 for each width
abbrev pub zeros : List ℕ → List ℕ
zeros [] = []
zeros (w ∷ widths) = 0 ∷ zeros widths
