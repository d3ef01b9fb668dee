-- Names: which of them differ (P4_16 1.2, "Name resolution").
use Rattle.std.specs.Prelude.{ℕ, Bool, false, ◌||◌, List, [], ◌∷◌}
use Rattle.std.specs.List.{list_any}
use Rattle.std.specs.Str.{bytes_eq}

-- the octets of a name
abbrev pub Name : Type 0
Name = List ℕ

-- a name stands among these
abbrev pub has_name : List Name → Name → Bool
has_name names name = list_any (bytes_eq name) names

-- a name stands twice among these
abbrev pub repeats : List Name → Bool
repeats [] = false
repeats (name ∷ names) = has_name names name || repeats names
