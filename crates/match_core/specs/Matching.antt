-- When an entry matches a key, and which of two entries counts first.
use Rattle.std.specs.Prelude.{ℕ, ◌+◌, ◌-◌, ◌/◌, ◌^◌, ◌==◌, nat_le, Bool, true, false, ◌&&◌, if◌then◌else◌, List, [], ◌∷◌, bit_and}
use Rattle.std.specs.List.{list_any}
use Rattle.match_core.specs.declared.signatures.KeyKind.{KeyKind}
use Rattle.match_core.specs.declared.signatures.KeyKind.TheVariants as kind
use Rattle.match_core.specs.declared.signatures.KeySpec.{KeySpec}
use Rattle.match_core.specs.declared.entries.KeyMatch.{KeyMatch}
use Rattle.match_core.specs.declared.entries.KeyMatch.TheVariants.{Exact, Ternary, Lpm, Range}
use Rattle.match_core.specs.declared.entries.Entry.{Entry}

-- one key of so many bits matches: it is equal, equal on the mask's bits, equal on the first bits, or
-- within the range (P4_14 1.0.5, "Table Declarations"; P4_16 1.2, "Match kinds")
abbrev pub matches_one : ℕ → KeyMatch → ℕ → Bool
matches_one width (Exact value) key = value == key
matches_one width (Ternary value mask) key = bit_and key mask == bit_and value mask
matches_one width (Lpm value length) key = key / 2 ^ (width - length) == value / 2 ^ (width - length)
matches_one width (Range low high) key = nat_le low key && nat_le key high

-- an entry matches where each key does
abbrev pub matches : List KeySpec → List KeyMatch → List ℕ → Bool
matches [] [] [] = true
matches (spec ∷ specs) (one ∷ ones) (value ∷ values) = matches_one spec.width one value && matches specs ones values
matches _ _ _ = false

-- a table with a ternary or a range key has priorities
abbrev pub has_priority : KeyKind → Bool
has_priority kind.Exact = false
has_priority kind.Ternary = true
has_priority kind.Lpm = false
has_priority kind.Range = true

abbrev pub by_priority : List KeySpec → Bool
by_priority specs = list_any (λ spec. has_priority spec.kind) specs

-- how many bits the prefixes of an entry have; a table has one lpm key at most
abbrev pub prefix_of : KeyMatch → ℕ
prefix_of (Exact value) = 0
prefix_of (Ternary value mask) = 0
prefix_of (Lpm value length) = length
prefix_of (Range low high) = 0

abbrev pub prefix_length : List KeyMatch → ℕ
prefix_length [] = 0
prefix_length (one ∷ ones) = prefix_of one + prefix_length ones

-- the smaller rank counts first: the priority, and without priorities the longer prefix
-- (P4_14 1.0.5, "Table Declarations"; that a smaller priority number counts first is this project's own)
abbrev pub rank_of : List KeySpec → Entry → ℕ
rank_of specs entry = if by_priority specs then entry.priority else 128 - prefix_length entry.keys
