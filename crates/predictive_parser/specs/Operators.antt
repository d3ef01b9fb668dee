-- Operators by their powers: the greater the power, the tighter an operator binds. A grammar of expressions has a word
-- for an expression whose operators bind at least so tightly, and a word for the operators that may come behind an
-- operand: those that bind at least so tightly as `least` and at most so as `most`.
use Rattle.std.specs.Prelude.{ℕ, suc, Bool, nat_le, ◌&&◌, List, [], ◌∷◌}
use Rattle.predictive_parser.specs.declared.symbol.Symbol.{Symbol}
use Rattle.predictive_parser.specs.declared.symbol.Symbol.TheVariants.{Put, Word}

-- an operator of this power may come next behind an operand
abbrev pub may_follow : ℕ → ℕ → ℕ → Bool
may_follow least most power = nat_le least power && nat_le power most

-- what stands behind an operator: its operand, the action that joins them, and the operators that may come next
abbrev pub behind_operator : {C A W : Type 0} → W → A → W → List (Symbol C A W)
behind_operator operand put operators = Word operand ∷ Put put ∷ Word operators ∷ []

module _ {C A W : Type 0} (expression : ℕ → W) (operators : ℕ → ℕ → W) where
  -- behind an operator in front of its operand: an operand that binds as tightly, and then operators that bind no tighter
  abbrev pub behind_prefix : ℕ → ℕ → A → List (Symbol C A W)
  behind_prefix least power put = behind_operator (expression power) put (operators least power)

  -- behind an operator between operands: a right operand that binds tighter, and then operators that bind no tighter, so
  -- that those of one power group to the left
  abbrev pub behind_infix : ℕ → ℕ → A → List (Symbol C A W)
  behind_infix least power put = behind_operator (expression (suc power)) put (operators least power)
