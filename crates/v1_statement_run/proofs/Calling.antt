-- What calls of externs and applications of tables come to.
use Rattle.std.proofs.Common.{◌≡◌, ℕ, List, Bool, true, false, cond, sym, ap, subst, ◌∙◌}
use Rattle.state_store.specs.State.{Contents}
use Rattle.state_store.specs.declared.shapes.Shape.{Shape}
use Rattle.v1_core.specs.Cells.{Cells}
use Rattle.v1_core.specs.Layouts.{Layout}
use Rattle.v1_ready_blocks.specs.declared.externs.Extern.{Extern}
use Rattle.v1_ready_blocks.specs.Moments.{Moment, is_stopped}
use Rattle.v1_ready_blocks.specs.Tests.{Applied}
use Rattle.v1_ready_blocks.specs.Externs.{executed}
use Rattle.v1_ready_blocks.specs.Arguments.{Argument, Gathered, arguments}
use Rattle.v1_ready_blocks.specs.Statements.{apply, execute, done}
use Rattle.v1_ready_blocks.specs.Nodes.{Ground, IsExtern}
use Rattle.v1_statement_run.specs.declared.run.Run.{Run}
use Rattle.v1_statement_run.specs.Seen.{given_of, moment, with_list, IsMoved}
use Rattle.v1_statement_run.specs.declared.tables.Told.{Told}
use Rattle.v1_statement_run.specs.Steps.{IsOver, Comes, Gathers, Tells}

module _ (g : Ground) where
  pub extern_over : (f : Cells) (s : Contents) (u : List ℕ) (r : Run) (what : Extern) → IsOver g (moment f s u r) → IsExtern g.layout g.shapes what → IsExtern f.layout s.shapes what
  extern_over f s u r what over is =
      let there : IsExtern f.layout g.shapes what = subst (λ (l : Layout). IsExtern l g.shapes what) (sym over.cells) is in
      subst (λ (shapes : List Shape). IsExtern f.layout shapes what) (sym over.shapes) there

  pub execute_stopped : (runs : ℕ → Moment → Applied) (old : Moment) (list : List Argument) (what : Extern) (f : Cells) (s : Contents) (u : List ℕ) (r : Run) (b : Bool) → Gathers g (arguments runs list old) (given_of r) (moment f s u r) → b ≡ is_stopped (moment f s u r) → b ≡ true → Comes g (done runs (execute what list) old) (moment f s u r)
  execute_stopped runs old list what f s u r b gathers is stopped = record {
    over = gathers.over;
    comes =
        ap (λ (x : Gathered). cond (is_stopped x.moment) x.moment (executed what x.given x.moment)) gathers.gathers
        ∙ ap (λ (b : Bool). cond b (moment f s u r) (executed what (given_of r) (moment f s u r))) (sym is ∙ stopped);
  }

  pub was_executed : (runs : ℕ → Moment → Applied) (old : Moment) (list : List Argument) (what : Extern) (f new : Cells) (s after : Contents) (u : List ℕ) (r next : Run) (b : Bool) → Gathers g (arguments runs list old) (given_of r) (moment f s u r) → b ≡ is_stopped (moment f s u r) → b ≡ false → IsMoved f s (moment new after u next) (executed what (given_of r) (moment f s u r)) → next ≡ with_list next.list r → Comes g (done runs (execute what list) old) (moment new after u next)
  was_executed runs old list what f new s after u r next b gathers is running moved kept = record {
    over = record { cells = moved.layout ∙ gathers.over.cells; waiting = ap (λ (n : Run). n.waiting.layout) kept ∙ gathers.over.waiting; shapes = moved.shapes ∙ gathers.over.shapes };
    comes =
        ap (λ (x : Gathered). cond (is_stopped x.moment) x.moment (executed what x.given x.moment)) gathers.gathers
        ∙ ap (λ (b : Bool). cond b (moment f s u r) (executed what (given_of r) (moment f s u r))) (sym is ∙ running)
        ∙ sym moved.moves;
  }

  pub was_applied : (runs : ℕ → Moment → Applied) (old : Moment) (table : ℕ) (f : Cells) (s : Contents) (u : List ℕ) (r : Run) (told : Told) → Tells g (runs table old) (moment f s u r) told → Comes g (done runs (apply table) old) (moment f s u r)
  was_applied runs old table f s u r told tells = record { over = tells.over; comes = ap (λ (a : Applied). a.moment) tells.tells }
