-- What the first of the rows of an expression tells.
use Rattle.std.specs.Prelude.{List, [], ◌∷◌}
use Rattle.p416_syntax.specs.Kinds.{Kind, unknown}
use Rattle.p416_typing.specs.Rows.{RowOf}

-- unknown where there is none
abbrev pub kind_first : List RowOf → Kind
kind_first [] = unknown
kind_first (r ∷ rows) = r.kind
