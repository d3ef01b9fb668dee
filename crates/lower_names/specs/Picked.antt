-- Names that are picked out of declarations, each once (this project's own).
use Rattle.std.specs.Prelude.{if◌then◌else◌, List, [], ◌∷◌, ◌++◌, Option, Some, None}
use Rattle.p414_syntax.specs.declared.syntax.Decl.{Decl}
use Rattle.p414_syntax.specs.Names.{Name, has_name}

-- a name behind these, unless it is among them
abbrev pub with_name : List Name → Name → List Name
with_name names name = if has_name names name then names else names ++ name ∷ []

-- the same of a name that may be none
abbrev pub with_some : List Name → Option Name → List Name
with_some found None = found
with_some found (Some name) = with_name found name

-- the same of each of these names
abbrev pub with_all : List Name → List Name → List Name
with_all found [] = found
with_all found (name ∷ names) = with_all (with_name found name) names

-- the names of these declarations behind those that were found
abbrev pub picked_from : (Decl → Option Name) → List Name → List Decl → List Name
picked_from pick found [] = found
picked_from pick found (d ∷ ds) = picked_from pick (with_some found (pick d)) ds
