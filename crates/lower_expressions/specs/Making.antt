-- Expressions and statements that are put over earlier ones, which keep their places (this project's own; P4_16 1.2, "Expressions", "Statements").
use Rattle.std.specs.Prelude.{◌≡◌, ℕ, ◌<◌, length}
use Rattle.p416_syntax.specs.Tree.{Exp16, Stmt16, Trees, exp_at, stmt_at, Keeps}

-- this expression stands at the place
pub record MakesExp (old new : Trees) (i : ℕ) (e : Exp16) : Type 0 where
  pub keeps : Keeps old new
  pub place : i < length new.exps
  pub tree : exp_at new.exps i ≡ e

-- this statement stands at the place
pub record MakesStmt (old new : Trees) (i : ℕ) (s : Stmt16) : Type 0 where
  pub keeps : Keeps old new
  pub place : i < length new.stmts
  pub tree : stmt_at new.stmts i ≡ s
