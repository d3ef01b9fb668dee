-- Uses that are collected.
use Rattle.std.specs.Prelude.{◌≡◌, List, ◌++◌, map}
use Rattle.p414_syntax.specs.declared.syntax.Decl.{Decl}
use Rattle.p414_syntax.specs.Uses as uses
use Rattle.p414_uses.specs.declared.uses.Use.{Use}
use Rattle.p414_uses.specs.Shown.{shown_use}

-- these are all uses of a program
abbrev pub AreUses : List Decl → List Use → Type 0
AreUses ds found = map shown_use found ≡ uses.uses ds

-- these uses are put behind those
abbrev pub Adds : List Use → List Use → List uses.Use → Type 0
Adds old new more = map shown_use new ≡ map shown_use old ++ more
