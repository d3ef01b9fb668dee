-- What is seen of the parts of expressions and controls: the trees that are built, and not the places of their nodes.
use Rattle.std.specs.Prelude.{ℕ, Bool, List}
use Rattle.p414_syntax.specs.Tree.{Expr, Stmt}
use Rattle.p414_syntax.specs.Views.{TailTree}

-- expressions and statements of the declaration that is read, with the labels of the lists of branches that are open, and for
-- what stands behind an `if` block, whether the control `else` is called then
pub record Bodies : Type 0 where
  pub exprs : List Expr
  pub tails : List (List TailTree)
  pub stmts : List Stmt
  pub labels : List (List (List ℕ))
  pub else_calls : List Bool
