-- The octets that leave, by the layout of a program (P4_14 1.0.5, "Deparsing").
use Rattle.std.specs.Prelude.{◌≡◌, ℕ, ◌%◌, if◌then◌else◌, List, [], ◌++◌, flat_map, slice_get, All, MatchBool, None}
use Rattle.std.specs.Option.{option_map_or}
use Rattle.p414_sem.specs.State.{Instance, State, instance_at}
use Rattle.p414_sem.specs.Passes.{header_octets}
use Rattle.p414_layout.specs.declared.shape.Shape.{Shape}
use Rattle.p414_layout.specs.Placed.{total}

-- the fields of a header are whole octets, and metadata is no stack
abbrev pub IsWholeShape : Shape → Type 0
IsWholeShape s = MatchBool s.metadata (s.stack ≡ None) (total s.widths % 8 ≡ 0)

abbrev pub AreWhole : List Shape → Type 0
AreWhole layout = All IsWholeShape layout

-- the octets of an instance: its valid elements by index, and none of metadata
abbrev pub shape_octets : Shape → Instance → List ℕ
shape_octets s i = if s.metadata then [] else flat_map (header_octets s.widths) i.elements

abbrev pub octets_in_layout : List Shape → State → ℕ → List ℕ
octets_in_layout layout s n = option_map_or (λ (shape : Shape). shape_octets shape (instance_at s n)) (slice_get layout n) []

-- a packet's headers in this order, and behind them what wasn't parsed
abbrev pub leaving : List Shape → List ℕ → State → List ℕ
leaving layout order s = flat_map (octets_in_layout layout s) order ++ s.unparsed
