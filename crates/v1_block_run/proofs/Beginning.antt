-- What statements come to that ask a condition or a table which others run.
use Rattle.std.proofs.Common.{◌≡◌, ℕ, ◌+◌, ◌<◌, Bool, true, false, cond, List, ◌∷◌, Option, None, Ok, Err, refl, sym, ap, subst, ◌∙◌, arith}
use Rattle.state_store.specs.State.{Contents}
use Rattle.v1_core.specs.declared.parser_error.ParserError.{ParserError}
use Rattle.v1_core.specs.Frames.{Hit}
use Rattle.v1_core.specs.Values.{is_true}
use Rattle.v1_core.specs.Cells.{Cells}
use Rattle.v1_core.specs.declared.scalar.Scalar.{Scalar}
use Rattle.v1_core.specs.Scalars.{seen_scalar}
use Rattle.v1_ready_blocks.specs.Moments.{Moment, raised}
use Rattle.v1_ready_blocks.specs.Nodes.{statement_at, test_at}
use Rattle.v1_ready_blocks.specs.Statements.{Statement, nothing, run}
use Rattle.v1_ready_blocks.specs.Tests.{Applied, Valued, test_value, with_test}
use Rattle.v1_statement_run.specs.declared.run.Run.{Run}
use Rattle.v1_statement_run.specs.Seen.{moment, seen_hit}
use Rattle.v1_statement_run.specs.declared.tables.Told.{Told}
use Rattle.v1_statement_run.specs.Steps.{IsOver, Gives, Tells, first_error, ground_of, stopped_by, trees_of}
use Rattle.v1_block_run.specs.declared.tasks.Level.{Level}
use Rattle.v1_block_run.specs.declared.tasks.Task.{Task}
use Rattle.v1_block_run.specs.declared.tasks.Task.TheVariants as task
use Rattle.v1_block_run.specs.declared.block.ReadyBlock.{ReadyBlock}
use Rattle.v1_block_run.specs.Blocks.{count_of, seen_block}
use Rattle.v1_block_run.specs.Tasks.{AreThere, applies_at, body_steps, calls_at, finish, load, steps, world_at}
use Rattle.v1_block_run.specs.Steps.{Leads, branched, switched}

stopped_is : (f : Cells) (w : Cells) (s : Contents) (u : List ℕ) (emitted : List Bool) (work : ℕ) (stopped : Option ParserError) (hit : Option Hit) (e : ParserError) →
    let m : Option ParserError → Moment = λ x. record { cells = f; waiting = w; store = s; unparsed = u; emitted = emitted; work = work; stopped = x; hit = hit } in
    m (Option.Some (first_error stopped e)) ≡ raised e (m stopped)
stopped_is f w s u emitted work None hit e = refl
stopped_is f w s u emitted work (Option.Some earlier) hit e = refl

place_by : (holds : Bool) (x y count : ℕ) → x < count → y < count → cond holds x y < count
place_by true x y count to_x to_y = to_x
place_by false x y count to_x to_y = to_y

pub place_there : (v : Scalar) (x y place count : ℕ) → x < count → y < count → place ≡ cond (is_true (seen_scalar v)) x y → place < count
place_there v x y place count to_x to_y is = subst (λ (p : ℕ). p < count) (sym is) (place_by (is_true (seen_scalar v)) x y count to_x to_y)

module _ (runs : ℕ → Moment → Applied) (b : ReadyBlock) (at : Level) (before : List Task) (there : AreThere (count_of b) before) where
  abbrev size : ℕ → ℕ
  size place = steps (body_steps (seen_block b) (calls_at (seen_block b) at)) (statement_at (trees_of b.code) place)

  abbrev run_at : Option ℕ → ℕ → Moment → Moment
  run_at who place m = run (world_at runs (seen_block b) at) who (statement_at (trees_of b.code) place) m

  abbrev branched_at : ℕ → ℕ → ℕ → Moment → Moment
  branched_at c x y m = branched (world_at runs (seen_block b) at) (test_at (trees_of b.code) c) (statement_at (trees_of b.code) x) (statement_at (trees_of b.code) y) m

  -- the statements that a condition chooses
  chosen_by : (holds : Bool) (x y : ℕ) (after : List Task) (due now : Moment) → x < count_of b → y < count_of b → IsOver (ground_of b.code) now → due ≡ cond holds (run_at None x now) (run_at None y now) → after ≡ task.Run at (cond holds x y) None ∷ before → Leads runs b before after due now (1 + size x + size y)
  chosen_by true x y after due now to_x to_y over is tasks = record {
    over = over;
    there = subst (AreThere (count_of b)) (sym tasks) (to_x, there);
    same = ap (λ (l : List Task). finish runs b l now) tasks ∙ ap (finish runs b before) (sym is);
    fewer = subst (λ (l : List Task). load b l < 1 + size x + size y + load b before) (sym tasks) (omega arith);
  }
  chosen_by false x y after due now to_x to_y over is tasks = record {
    over = over;
    there = subst (AreThere (count_of b)) (sym tasks) (to_y, there);
    same = ap (λ (l : List Task). finish runs b l now) tasks ∙ ap (finish runs b before) (sym is);
    fewer = subst (λ (l : List Task). load b l < 1 + size x + size y + load b before) (sym tasks) (omega arith);
  }

  pub branch_leads : (c x y place : ℕ) (v : Scalar) (after : List Task) (old now : Moment) → x < count_of b → y < count_of b → Gives (ground_of b.code) (test_value (applies_at at runs) (test_at (trees_of b.code) c) old) now (Ok v) → place ≡ cond (is_true (seen_scalar v)) x y → after ≡ task.Run at place None ∷ before → Leads runs b before after (branched_at c x y old) now (1 + size x + size y)
  branch_leads c x y place v after old now to_x to_y gives is tasks =
      chosen_by (is_true (seen_scalar v)) x y after (branched_at c x y old) now to_x to_y gives.over
      (ap (λ (g : Valued). with_test g (λ u n. cond (is_true u) (run_at None x n) (run_at None y n))) gives.gives)
      (tasks ∙ ap (λ (p : ℕ). task.Run at p None ∷ before) is)

  pub branch_nothing : (c x y place : ℕ) (v : Scalar) (old now : Moment) → x < count_of b → y < count_of b → Gives (ground_of b.code) (test_value (applies_at at runs) (test_at (trees_of b.code) c) old) now (Ok v) → place ≡ cond (is_true (seen_scalar v)) x y → statement_at (trees_of b.code) place ≡ nothing → Leads runs b before before (branched_at c x y old) now (1 + size x + size y)
  branch_nothing c x y place v old now to_x to_y gives is none =
      let leads : Leads runs b before (task.Run at place None ∷ before) (branched_at c x y old) now (1 + size x + size y) =
      branch_leads c x y place v (task.Run at place None ∷ before) old now to_x to_y gives is refl in
      record {
        over = leads.over;
        there = there;
        same =
            sym
            (ap (λ (s : Statement). finish runs b before (run (world_at runs (seen_block b) at) None s now)) none)
            ∙ leads.same;
        fewer = omega (arith, leads.fewer);
      }

  pub branch_failed : (c x y : ℕ) (error : ParserError) (old : Moment) (f : Cells) (s : Contents) (u : List ℕ) (r new : Run) → Gives (ground_of b.code) (test_value (applies_at at runs) (test_at (trees_of b.code) c) old) (moment f s u r) (Err error) → new ≡ stopped_by error r → Leads runs b before before (branched_at c x y old) (moment f s u new) (1 + size x + size y)
  branch_failed c x y error old f s u r new gives stops = record {
    over = subst (λ (n : Run). IsOver (ground_of b.code) (moment f s u n)) (sym stops) (record { cells = gives.over.cells; waiting = gives.over.waiting; shapes = gives.over.shapes });
    there = there;
    same =
        ap (λ (n : Run). finish runs b before (moment f s u n)) stops
        ∙ ap (finish runs b before)
        (stopped_is f r.waiting s u r.emitted r.work r.stopped (seen_hit r.hit) error
        ∙ sym (ap (λ (g : Valued). with_test g (λ v n. cond (is_true v) (run_at None x n) (run_at None y n))) gives.gives));
    fewer = omega arith;
  }

  pub switch_leads : (table x : ℕ) (told : Told) (after : List Task) (old now : Moment) → x < count_of b → Tells (ground_of b.code) (applies_at at runs table old) now told → after ≡ task.Run at x told.action ∷ before → Leads runs b before after (switched (world_at runs (seen_block b) at) table (statement_at (trees_of b.code) x) old) now (1 + size x)
  switch_leads table x told after old now to_x tells tasks = record {
    over = tells.over;
    there = subst (AreThere (count_of b)) (sym tasks) (to_x, there);
    same =
        ap (λ (l : List Task). finish runs b l now) tasks
        ∙ ap (λ (a : Applied). finish runs b before (run_at a.action x a.moment)) (sym tells.tells);
    fewer = subst (λ (l : List Task). load b l < 1 + size x + load b before) (sym tasks) (omega arith);
  }
