-- The types of the headers that are copied.
use Rattle.std.specs.Prelude.{Bool, false, not, List, [], ◌∷◌, Option, Some, None}
use Rattle.std.specs.List.{list_all}
use Rattle.std.specs.Option.{option_map_or}
use Rattle.std.specs.Str.{bytes_eq}
use Rattle.p414_syntax.specs.Names.{Name}

-- the first of these names
abbrev pub first_of : List Name → Option Name
first_of [] = None
first_of (name ∷ names) = Some name

-- one of these names is another than this one
abbrev pub differ_from : List Name → Name → Bool
differ_from names name = not (list_all (bytes_eq name) names)

-- one of these names is another than the first of them
abbrev pub differ_from_first : List Name → Bool
differ_from_first names = option_map_or (differ_from names) (first_of names) false
