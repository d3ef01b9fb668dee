-- What statements come to that don't count.
use Rattle.std.proofs.Common.{◌≡◌, ℕ, ◌+◌, ◌<◌, Bool, true, false, cond, List, ◌∷◌, Option, None, sym, ap, subst, ◌∙◌, arith}
use Rattle.state_store.specs.State.{Contents}
use Rattle.v1_core.specs.Cells.{Cells}
use Rattle.v1_core.specs.Layouts.{Layout}
use Rattle.v1_ready_blocks.specs.declared.places.Range.{Range}
use Rattle.v1_ready_blocks.specs.Moments.{Moment, going_on, is_stopped, with_cells}
use Rattle.v1_ready_blocks.specs.Nodes.{Ground, IsRange, statement_at}
use Rattle.v1_ready_blocks.specs.Places.{emptied}
use Rattle.v1_ready_blocks.specs.Statements.{is_action, labelled, otherwise, run, sequence}
use Rattle.v1_ready_blocks.specs.Tests.{Applied}
use Rattle.v1_statement_run.specs.declared.run.Run.{Run}
use Rattle.v1_statement_run.specs.Seen.{moment}
use Rattle.v1_statement_run.specs.Steps.{IsOver, Comes, ground_of, trees_of}
use Rattle.v1_block_run.specs.declared.tasks.Level.{Level}
use Rattle.v1_block_run.specs.declared.tasks.Task.{Task}
use Rattle.v1_block_run.specs.declared.tasks.Task.TheVariants as task
use Rattle.v1_block_run.specs.declared.block.ReadyBlock.{ReadyBlock}
use Rattle.v1_block_run.specs.Blocks.{count_of, seen_block}
use Rattle.v1_block_run.specs.Tasks.{AreThere, body_steps, calls_at, finish, load, steps, world_at}
use Rattle.v1_block_run.specs.Steps.{Leads}

-- variables

module _ (g : Ground) (f : Cells) (s : Contents) (u : List ℕ) (r : Run) (over : IsOver g (moment f s u r)) where
  pub range_over : (range : Range) → IsRange g.layout range → IsRange f.layout range
  range_over range is = subst (λ (l : Layout). IsRange l range) (sym over.cells) is

  abbrev started_at : Range → Moment → Moment
  started_at range m = with_cells (emptied range m.cells) m

  pub not_started : (range : Range) (stopped : Bool) → stopped ≡ is_stopped (moment f s u r) → stopped ≡ true → Comes g (going_on (λ n. with_cells (emptied range n.cells) n) (moment f s u r)) (moment f s u r)
  not_started range stopped is on = record {
    over = over;
    comes = ap (λ (b : Bool). cond b (moment f s u r) (started_at range (moment f s u r))) (sym is ∙ on);
  }

  pub started : (range : Range) (new : Cells) (stopped : Bool) → stopped ≡ is_stopped (moment f s u r) → stopped ≡ false → new ≡ emptied range f → new.layout ≡ f.layout → Comes g (going_on (λ n. with_cells (emptied range n.cells) n) (moment f s u r)) (moment new s u r)
  started range new stopped is off empties layout = record {
    over = record { cells = layout ∙ over.cells; waiting = over.waiting; shapes = over.shapes };
    comes =
        ap (λ (b : Bool). cond b (moment f s u r) (started_at range (moment f s u r))) (sym is ∙ off)
        ∙ ap (λ (c : Cells). moment c s u r) (sym empties);
  }

-- statements that others take the place of

module _ (runs : ℕ → Moment → Applied) (b : ReadyBlock) (at : Level) (ran : Option ℕ) (before after : List Task) (m : Moment) (there : AreThere (count_of b) before) (over : IsOver (ground_of b.code) m) where
  abbrev size : ℕ → ℕ
  size place = steps (body_steps (seen_block b) (calls_at (seen_block b) at)) (statement_at (trees_of b.code) place)

  abbrev run_at : Option ℕ → ℕ → Moment
  run_at who place = run (world_at runs (seen_block b) at) who (statement_at (trees_of b.code) place) m

  pub both_lead : (x y : ℕ) → (x < count_of b) × (y < count_of b) → after ≡ task.Run at x ran ∷ task.Run at y ran ∷ before → Leads runs b before after (run (world_at runs (seen_block b) at) ran (sequence (statement_at (trees_of b.code) x) (statement_at (trees_of b.code) y)) m) m (1 + size x + size y)
  both_lead x y are is = record {
    over = over;
    there = subst (AreThere (count_of b)) (sym is) (are.0, (are.1, there));
    same = ap (λ (l : List Task). finish runs b l m) is;
    fewer = subst (λ (l : List Task). load b l < 1 + size x + size y + load b before) (sym is) (omega arith);
  }

  one_leads : (who : Option ℕ) (place most : ℕ) → place < count_of b → after ≡ task.Run at place who ∷ before → size place < most → Leads runs b before after (run_at who place) m most
  one_leads who place most is_there is few = record {
    over = over;
    there = subst (AreThere (count_of b)) (sym is) (is_there, there);
    same = ap (λ (l : List Task). finish runs b l m) is;
    fewer = subst (λ (l : List Task). load b l < most + load b before) (sym is) (omega (arith, few));
  }

  pub otherwise_leads : (x : ℕ) → x < count_of b → after ≡ task.Run at x None ∷ before → Leads runs b before after (run (world_at runs (seen_block b) at) ran (otherwise (statement_at (trees_of b.code) x)) m) m (1 + size x)
  otherwise_leads x is_there is = one_leads None x (1 + size x) is_there is (omega arith)

  case_by : (here : Bool) (x y : ℕ) → (x < count_of b) × (y < count_of b) → after ≡ (cond here (task.Run at x None) (task.Run at y ran)) ∷ before → Leads runs b before after (cond here (run_at None x) (run_at ran y)) m (1 + size x + size y)
  case_by true x y are is = one_leads None x (1 + size x + size y) are.0 is (omega arith)
  case_by false x y are is = one_leads ran y (1 + size x + size y) are.1 is (omega arith)

  pub case_leads : (action x y : ℕ) (t : Task) → (x < count_of b) × (y < count_of b) → t ≡ cond (is_action ran action) (task.Run at x None) (task.Run at y ran) → after ≡ t ∷ before → Leads runs b before after (run (world_at runs (seen_block b) at) ran (labelled action (statement_at (trees_of b.code) x) (statement_at (trees_of b.code) y)) m) m (1 + size x + size y)
  case_leads action x y t are which is = case_by (is_action ran action) x y are (is ∙ ap (λ (k : Task). k ∷ before) which)
