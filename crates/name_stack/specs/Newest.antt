-- Where a name stands last.
use Rattle.std.specs.Prelude.{ℕ, suc, Bool, if◌then◌else◌, List, [], ◌∷◌, Option, Some, None}
use Rattle.std.specs.Str.{bytes_eq}

-- the octets of a name
abbrev pub Name : Type 0
Name = List ℕ

-- the place in a list, given that in what stands behind the first, and whether the first is it
abbrev pub behind_first : Option ℕ → Bool → Option ℕ
behind_first (Some place) is_first = Some (suc place)
behind_first None is_first = if is_first then Some 0 else None

-- the place of the last of these names that is equal to this one, from 0
abbrev pub newest : List Name → Name → Option ℕ
newest [] text = None
newest (name ∷ names) text = behind_first (newest names text) (bytes_eq name text)
