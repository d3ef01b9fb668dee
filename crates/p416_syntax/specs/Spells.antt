-- Which tokens a syntax is spelled with (P4_16 1.2, "P4 grammar").
use Rattle.std.specs.Prelude.{◌≡◌, true, List}
use Rattle.p416_syntax.specs.declared.program.Syntax16.{Syntax16}
use Rattle.p416_syntax.specs.Tokens.{Seen16}
use Rattle.p416_syntax.specs.Written.{written}
use Rattle.p416_syntax.specs.Parentheses.{bare}
use Rattle.p416_syntax.specs.Conditions.{is_syntax, with_parentheses}

-- The tokens are those that the syntax is written with, when parentheses are put around expressions in some way that
-- keeps to the grammar. Around any expression they may stand, and around an operand that binds less tightly they must.
pub record Spells16 (s : Syntax16) (tokens : List Seen16) : Type 0 where
  pub in_full : Syntax16
  pub same : bare in_full ≡ s
  pub tokens_are : tokens ≡ written in_full
  pub keeps : is_syntax with_parentheses in_full ≡ true
