-- The parameters of an action as a set.
use Rattle.std.specs.Prelude.{◌≡◌, List}
use Rattle.p414_syntax.specs.Names.{Name, has_name}

-- the set has the names, and no others
abbrev pub AreParameters : List Name → List Name → Type 0
AreParameters names set = (name : Name) → has_name set name ≡ has_name names name
