-- The rows of a word as code tells them, and the rows of the grammar that they stand for (this project's own).
use Rattle.std.specs.Prelude.{List, [], ◌∷◌, ◌++◌, map}
use Rattle.predictive_parser.specs.declared.symbol.Symbol.{Symbol}
use Rattle.predictive_parser.specs.Grammar as grammar
use Rattle.predictive_parser.specs.Grammar.{Line, ◌⇒◌}
use Rattle.predictive_parser.specs.declared.row.Row.{Row}
use Rattle.predictive_parser.specs.declared.row.Row.TheVariants.{Plain, Like, Coded}

module _ {C A W T : Type 0} where
  -- a class, and the symbols that follow a token of it, whatever the token
  abbrev pub line : C → List (Symbol C A W) → Line C A W T
  line first rest = record { first = first; rest = λ token. rest }

  -- a line as a row of the grammar
  abbrev pub row_of : Line C A W T → grammar.Row C A W T
  row_of line = grammar.Plain line.first line.rest

  -- The rows of the grammar that rows of code stand for. These lines stand for what a method chooses from.
  abbrev pub told : List (Line C A W T) → List (Row C A W) → List (grammar.Row C A W T)
  told coded [] = []
  told coded (Plain first rest ∷ rows) = (first ⇒ rest.now) ∷ told coded rows
  told coded (Like word more ∷ rows) = grammar.Like word more.now ∷ told coded rows
  told coded (Coded ∷ rows) = map row_of coded ++ told coded rows
