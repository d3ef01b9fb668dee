-- What is seen of expressions and statements: the trees that are built, and not the places of their nodes.
use Rattle.std.specs.Prelude.{Bool, List}
use Rattle.p416_syntax.specs.Tree.{Exp16, Stmt16}

-- Expressions and statements that aren't part of another yet, the newest first, and whether the statement that was read
-- last ends in an `if` without `else`.
pub record Bodies : Type 0 where
  pub exps : List Exp16
  pub stmts : List Stmt16
  pub is_open : Bool
