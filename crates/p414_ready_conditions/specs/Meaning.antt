-- What it is for rows to be a condition of a program.
use Rattle.std.specs.Prelude.{◌≡◌, List}
use Rattle.p414_syntax.specs.declared.syntax.Decl.{Decl}
use Rattle.p414_syntax.specs.Tree.{Expr}
use Rattle.p414_sem.specs.State.{State}
use Rattle.p414_sem.specs.Conditions.{holds}
use Rattle.p414_ready_conditions.specs.declared.rows.ConditionRow.{ConditionRow}
use Rattle.p414_ready_conditions.specs.Running.{rows_hold}

-- in each state they hold where the condition does
pub record MeansCondition (ds : List Decl) (e : Expr) (rows : List ConditionRow) : Type 0 where
  pub tells : (s : State) → rows_hold s rows ≡ holds ds s e
