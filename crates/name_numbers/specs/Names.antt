-- Names, and their numbers.
use Rattle.std.specs.Prelude.{ℕ, List, Option, position}
use Rattle.std.specs.Str.{bytes_eq}

-- the octets of a name
abbrev pub Name : Type 0
Name = List ℕ

-- the number of the first of these names that is equal to this one, from 0
abbrev pub find_name : List Name → Name → Option ℕ
find_name names name = position (bytes_eq name) names
