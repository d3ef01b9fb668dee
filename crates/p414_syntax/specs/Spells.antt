-- Which tokens a syntax is spelled with (P4_14 1.0.5, "Summary of P4 BNF").
use Rattle.std.specs.Prelude.{◌≡◌, true, List}
use Rattle.p414_syntax.specs.declared.lexeme.Lexeme.{Lexeme}
use Rattle.p414_syntax.specs.declared.syntax.Syntax14.{Syntax14}
use Rattle.p414_syntax.specs.Written.{written}
use Rattle.p414_syntax.specs.Conditions.{is_syntax}

-- the tokens are those that the syntax is written with, and it keeps to the grammar
pub record Spells (s : Syntax14) (tokens : List Lexeme) : Type 0 where
  pub tokens_are : tokens ≡ written s
  pub keeps : is_syntax s ≡ true
