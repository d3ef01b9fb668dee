-- The bits of a header's fields, first field first, each with its most significant bit first (P4_14 1.0.5, "Header Type
-- Declarations", "Deparsing").
use Rattle.std.specs.Prelude.{ℕ, Bool, List, [], ◌∷◌, ◌++◌, take, drop, map}
use Rattle.std.specs.Option.{option_map_or}
use Rattle.p4x_bits.specs.BitLists.{num, bits}
use Rattle.p414_syntax.specs.declared.syntax.Decl.{Decl}
use Rattle.p414_syntax.specs.Views.{HeaderTypeTree}
use Rattle.p414_syntax.specs.Names.{Name}
use Rattle.p414_syntax.specs.Fields.{type_of, instance_type, field_bits}

-- the widths of the fields of a header type, in order
abbrev pub type_widths : HeaderTypeTree → List ℕ
type_widths t = map field_bits t.fields

-- those of the header type with this name
abbrev pub widths_of_type : List Decl → Name → List ℕ
widths_of_type ds name = option_map_or type_widths (type_of ds name) []

-- those of the instance with this name
abbrev pub widths_of : List Decl → Name → List ℕ
widths_of ds instance = option_map_or type_widths (instance_type ds instance) []

-- the numbers of fields of these widths, taken from bits in order
abbrev pub numbers_in : List ℕ → List Bool → List ℕ
numbers_in [] rest = []
numbers_in (w ∷ widths) rest = num (take w rest) ∷ numbers_in widths (drop w rest)

-- the bits of fields of these widths with these numbers
abbrev pub bits_in : List ℕ → List ℕ → List Bool
bits_in [] numbers = []
bits_in (w ∷ widths) [] = bits w 0 ++ bits_in widths []
bits_in (w ∷ widths) (n ∷ numbers) = bits w n ++ bits_in widths numbers

-- the octets whose bits these are, where they are whole octets
abbrev pub octets_in : List Bool → List ℕ
octets_in (a ∷ b ∷ c ∷ d ∷ e ∷ f ∷ g ∷ h ∷ rest) = num (a ∷ b ∷ c ∷ d ∷ e ∷ f ∷ g ∷ h ∷ []) ∷ octets_in rest
octets_in _ = []
