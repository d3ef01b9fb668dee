-- What tells the entries of a table apart (this project's own).
use Rattle.std.specs.Prelude.{ℕ, ◌-◌, ◌/◌, ◌^◌, List, [], ◌∷◌, ◌++◌, bit_and}
use Rattle.match_core.specs.declared.signatures.KeySpec.{KeySpec}
use Rattle.match_core.specs.declared.entries.KeyMatch.{KeyMatch}
use Rattle.match_core.specs.declared.entries.KeyMatch.TheVariants.{Exact, Ternary, Lpm, Range}
use Rattle.match_core.specs.declared.entries.Entry.{Entry}

-- what counts of a key of so many bits when two are compared: a value on its mask, and the mask; a prefix, and its
-- length
abbrev pub counted : ℕ → KeyMatch → List ℕ
counted width (Exact value) = value ∷ 0 ∷ []
counted width (Ternary value mask) = bit_and value mask ∷ mask ∷ []
counted width (Lpm value bits) = value / 2 ^ (width - bits) ∷ bits ∷ []
counted width (Range low high) = low ∷ high ∷ []

abbrev pub counted_all : List KeySpec → List KeyMatch → List ℕ
counted_all [] keys = []
counted_all (spec ∷ specs) [] = []
counted_all (spec ∷ specs) (key ∷ keys) = counted spec.width key ++ counted_all specs keys

-- two entries of a table are the same where their priorities are, and what counts of their keys
abbrev pub identity : List KeySpec → Entry → List ℕ
identity specs entry = entry.priority ∷ counted_all specs entry.keys
