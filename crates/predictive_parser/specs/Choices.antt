-- Which row of a word is chosen, and what that does to the stack of symbols.
use Rattle.std.specs.Prelude.{◌≡◌, List, [], ◌∷◌, ◌++◌, if◌then◌else◌, Option, Some, None}
use Rattle.predictive_parser.specs.declared.symbol.Symbol.{Symbol}
use Rattle.predictive_parser.specs.declared.alternatives.Alternative.{Alternative}
use Rattle.predictive_parser.specs.Grammar.{Grammar}

module _ {C A W : Type 0} where
  -- the class is that of the row that fits, and its symbols are put in front of the others; where none
  -- fits, nothing is
  abbrev pub Chooses : Option C → Option (C × List (Symbol C A W)) → List (Symbol C A W) → List (Symbol C A W) → Type 0
  Chooses (Some class) (Some fit) old new = (class ≡ fit.0) × (new ≡ fit.1 ++ old)
  Chooses None None old new = new ≡ old
  Chooses (Some class) None old new = ⊥
  Chooses None (Some fit) old new = ⊥

-- the first of these rows that fits the token: its class, and the symbols behind it with more behind them
module _ {C A W T B : Type 0} (grammar : Grammar C A W T B) where
  abbrev pub first_of : T → B → List (Alternative C A W) → List (Symbol C A W) → Option (C × List (Symbol C A W))
  first_of token built [] more = None
  first_of token built (row ∷ rows) more = if grammar.accepts row.first token built then Some (row.first, row.rest.now ++ more) else first_of token built rows more
