-- The parts of one list that begin at given places.
use Rattle.std.specs.Prelude.{ℕ, ◌≤◌, List, [], ◌∷◌, length, slice_range}

-- where the part in front of these ends
abbrev pub first_start : List ℕ → ℕ → ℕ
first_start [] end = end
first_start (start ∷ rest) end = start

abbrev pub AreStarts : List ℕ → ℕ → Type 0
AreStarts [] end = Unit {0}
AreStarts (start ∷ rest) end = (start ≤ first_start rest end) × (start ≤ end) × AreStarts rest end

abbrev pub parts : List ℕ → List ℕ → List (List ℕ)
parts [] items = []
parts (start ∷ rest) items = slice_range items start (first_start rest (length items)) ∷ parts rest items
