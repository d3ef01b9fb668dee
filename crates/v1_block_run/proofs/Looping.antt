-- Turns of the loop.
use Rattle.std.proofs.Common.{◌≡◌, ℕ, ◌+◌, ◌<◌, Bool, true, false, cond, List, [], ◌∷◌, drop, Option, Some, None, refl, sym, ap, subst, ◌∙◌, arith, drop-drop}
use Rattle.state_store.specs.State.{Contents}
use Rattle.v1_core.specs.Cells.{Cells}
use Rattle.v1_ready_blocks.specs.declared.nodes.StatementNode.{StatementNode}
use Rattle.v1_ready_blocks.specs.declared.nodes.StatementNode.TheVariants as node
use Rattle.v1_ready_blocks.specs.Arguments.{given_back}
use Rattle.v1_ready_blocks.specs.Blocks.{acted}
use Rattle.v1_ready_blocks.specs.Moments.{Moment, going_on, is_stopped, ticked}
use Rattle.v1_ready_blocks.specs.Nodes.{Ground, Tree, outgoing_at, statement_at, statement_of}
use Rattle.v1_ready_blocks.specs.Statements.{Statement, nothing, run}
use Rattle.v1_ready_blocks.specs.Tests.{Applied, World, no_table_applies}
use Rattle.v1_statement_run.specs.declared.run.Run.{Run}
use Rattle.v1_statement_run.specs.Seen.{moment}
use Rattle.v1_statement_run.specs.Steps.{IsOver, Comes, ground_of, trees_of}
use Rattle.v1_block_run.specs.declared.tasks.Level.{Level}
use Rattle.v1_block_run.specs.declared.tasks.Task.{Task}
use Rattle.v1_block_run.specs.declared.tasks.Task.TheVariants as task
use Rattle.v1_block_run.specs.declared.block.ReadyBlock.{ReadyBlock}
use Rattle.v1_block_run.specs.Blocks.{count_of, seen_block}
use Rattle.v1_block_run.specs.Tasks.{AreThere, body_steps, calls_at, finish, load, steps, task_done, world_at}
use Rattle.v1_block_run.specs.Steps.{Acts, Leads, Opens, arranged, begun, is_counted, ticked_run}
use Rattle.v1_block_run.proofs.Opening.{was_opened}

-- a statement by its node

abbrev run_counted : World → List Tree → StatementNode → Moment → Moment
run_counted w ts n m = cond (is_stopped m) m (begun w ts n (ticked m))

node_runs : (w : World) (ran : Option ℕ) (ts : List Tree) (n : StatementNode) (m : Moment) → run w ran (statement_of ts n) m ≡ cond (is_counted n) (run_counted w ts n m) (arranged w ran ts n m)
node_runs w ran ts node.Nothing m = refl
node_runs w ran ts (node.Sequence a b) m = refl
node_runs w ran ts (node.Start r) m = refl
node_runs w ran ts (node.Assign to slice a) m = refl
node_runs w ran ts (node.AssignParts to a) m = refl
node_runs w ran ts (node.SetValid header on) m = refl
node_runs w ran ts (node.PushFront stack n) m = refl
node_runs w ran ts (node.PopFront stack n) m = refl
node_runs w ran ts (node.Extract header) m = refl
node_runs w ran ts (node.Emit a) m = refl
node_runs w ran ts (node.Execute what a) m = refl
node_runs w ran ts (node.Apply table) m = refl
node_runs w ran ts (node.LetGo a) m = refl
node_runs w ran ts (node.Call action apart a b) m = refl
node_runs w ran ts (node.Branch c a b) m = refl
node_runs w ran ts (node.Switch table a) m = refl
node_runs w ran ts (node.Labelled action a b) m = refl
node_runs w ran ts (node.Otherwise a) m = refl

takes_some : (body : ℕ → ℕ) (s : Statement) → 0 < steps body s
takes_some body Statement.nothing = omega arith
takes_some body (Statement.sequence a b) = omega arith
takes_some body (Statement.start at) = omega arith
takes_some body (Statement.does deed) = omega arith
takes_some body (Statement.call action apart incoming outgoing) = omega arith
takes_some body (Statement.branch c a b) = omega arith
takes_some body (Statement.switch table cases) = omega arith
takes_some body (Statement.labelled action a cases) = omega arith
takes_some body (Statement.otherwise a) = omega arith

pub ticked_over : (g : Ground) (f : Cells) (s : Contents) (u : List ℕ) (r new : Run) → new ≡ ticked_run r → IsOver g (moment f s u r) → IsOver g (moment f s u new)
ticked_over g f s u r new is over =
    subst (λ (n : Run). IsOver g (moment f s u n)) (sym is) (record { cells = over.cells; waiting = over.waiting; shapes = over.shapes })

module _ (runs : ℕ → Moment → Applied) (b : ReadyBlock) (at : Level) (place : ℕ) (ran : Option ℕ) (before : List Task) where
  abbrev size : Statement → ℕ
  size s = steps (body_steps (seen_block b) (calls_at (seen_block b) at)) s

  abbrev run_of : Statement → Moment → Moment
  run_of s m = run (world_at runs (seen_block b) at) ran s m

  -- the statement at the place is this one
  as_task : (s : Statement) (after : List Task) (old now due : Moment) → statement_at (trees_of b.code) place ≡ s → due ≡ run_of s old → Leads runs b before after due now (size s) → Leads runs b (task.Run at place ran ∷ before) after old now 0
  as_task s after old now due tree is leads = record {
    over = leads.over;
    there = leads.there;
    same = leads.same ∙ ap (finish runs b before) (is ∙ ap (λ (t : Statement). run_of t old) (sym tree));
    fewer =
        let taken : size (statement_at (trees_of b.code) place) ≡ size s = ap size tree in
        omega (arith, taken, leads.fewer);
  }

  stays : (s : Statement) (m : Moment) → statement_at (trees_of b.code) place ≡ s → m ≡ run_of s m → AreThere (count_of b) before → IsOver (ground_of b.code) m → Leads runs b (task.Run at place ran ∷ before) before m m 0
  stays s m tree is there over =
      as_task s before m m m tree is
      (record { over = over; there = there; same = refl; fewer = omega (arith, takes_some (body_steps (seen_block b) (calls_at (seen_block b) at)) s) })

  pub none_stands : (m : Moment) → statement_at (trees_of b.code) place ≡ nothing → AreThere (count_of b) before → IsOver (ground_of b.code) m → Leads runs b (task.Run at place ran ∷ before) before m m 0
  none_stands m tree there over = stays nothing m tree refl there over

  module _ (n : StatementNode) (counted : Bool) (tree : statement_at (trees_of b.code) place ≡ statement_of (trees_of b.code) n) (is_counted_so : counted ≡ is_counted n) where
    runs_by : (m : Moment) → run_of (statement_of (trees_of b.code) n) m ≡ cond counted (run_counted (world_at runs (seen_block b) at) (trees_of b.code) n m) (arranged (world_at runs (seen_block b) at) ran (trees_of b.code) n m)
    runs_by m =
        node_runs (world_at runs (seen_block b) at) ran (trees_of b.code) n m
        ∙ ap (λ (k : Bool). cond k (run_counted (world_at runs (seen_block b) at) (trees_of b.code) n m) (arranged (world_at runs (seen_block b) at) ran (trees_of b.code) n m)) (sym is_counted_so)

    pub was_arranged : (after : List Task) (old now : Moment) → counted ≡ false → Leads runs b before after (arranged (world_at runs (seen_block b) at) ran (trees_of b.code) n old) now (size (statement_of (trees_of b.code) n)) → Leads runs b (task.Run at place ran ∷ before) after old now 0
    was_arranged after old now off leads =
        as_task (statement_of (trees_of b.code) n) after old now (arranged (world_at runs (seen_block b) at) ran (trees_of b.code) n old) tree
        (sym
        (runs_by old
        ∙ ap (λ (k : Bool). cond k (run_counted (world_at runs (seen_block b) at) (trees_of b.code) n old) (arranged (world_at runs (seen_block b) at) ran (trees_of b.code) n old)) off))
        leads

    counted_runs : (m : Moment) (stopped : Bool) → counted ≡ true → stopped ≡ is_stopped m → run_of (statement_of (trees_of b.code) n) m ≡ cond stopped m (begun (world_at runs (seen_block b) at) (trees_of b.code) n (ticked m))
    counted_runs m stopped on is =
        runs_by m
        ∙ ap (λ (k : Bool). cond k (run_counted (world_at runs (seen_block b) at) (trees_of b.code) n m) (arranged (world_at runs (seen_block b) at) ran (trees_of b.code) n m)) on
        ∙ ap (λ (k : Bool). cond k m (begun (world_at runs (seen_block b) at) (trees_of b.code) n (ticked m))) (sym is)

    pub was_stopped : (m : Moment) (stopped : Bool) → counted ≡ true → stopped ≡ is_stopped m → stopped ≡ true → AreThere (count_of b) before → IsOver (ground_of b.code) m → Leads runs b (task.Run at place ran ∷ before) before m m 0
    was_stopped m stopped on is stops there over =
        stays (statement_of (trees_of b.code) n) m tree
        (sym
        (counted_runs m stopped on is
        ∙ ap (λ (k : Bool). cond k m (begun (world_at runs (seen_block b) at) (trees_of b.code) n (ticked m))) stops))
        there over

    pub was_begun : (f : Cells) (s : Contents) (u : List ℕ) (r new : Run) (after : List Task) (now : Moment) (stopped : Bool) → counted ≡ true → stopped ≡ is_stopped (moment f s u r) → stopped ≡ false → new ≡ ticked_run r → Leads runs b before after (begun (world_at runs (seen_block b) at) (trees_of b.code) n (moment f s u new)) now (size (statement_of (trees_of b.code) n)) → Leads runs b (task.Run at place ran ∷ before) after (moment f s u r) now 0
    was_begun f s u r new after now stopped on is goes ticks leads =
        as_task (statement_of (trees_of b.code) n) after (moment f s u r) now
        (begun (world_at runs (seen_block b) at) (trees_of b.code) n (moment f s u new)) tree
        (sym
        (counted_runs (moment f s u r) stopped on is
        ∙ ap (λ (k : Bool). cond k (moment f s u r) (begun (world_at runs (seen_block b) at) (trees_of b.code) n (ticked (moment f s u r)))) goes
        ∙ ap (λ (q : Run). begun (world_at runs (seen_block b) at) (trees_of b.code) n (moment f s u q)) (sym ticks)))
        leads

-- a task over octets of which so many are parsed

module _ (runs : ℕ → Moment → Applied) (b : ReadyBlock) (octets left : List ℕ) (parsed : ℕ) (f new : Cells) (s t : Contents) (r q : Run) (before after : List Task) (is : left ≡ drop parsed octets) where
  runs_task : (first : Task) (taken : ℕ) → Leads runs b (first ∷ before) after (moment f s left r) (moment new t (drop taken left) q) 0 → Leads runs b (first ∷ before) after (moment f s (drop parsed octets) r) (moment new t (drop (parsed + taken) octets) q) 0
  runs_task first taken leads =
      let end : drop taken left ≡ drop (parsed + taken) octets = ap (drop taken) is ∙ drop-drop taken parsed octets in
      let at_end : Leads runs b (first ∷ before) after (moment f s left r) (moment new t (drop (parsed + taken) octets) q) 0 =
      subst (λ (u : List ℕ). Leads runs b (first ∷ before) after (moment f s left r) (moment new t u q) 0) end leads in
      subst (λ (u : List ℕ). Leads runs b (first ∷ before) after (moment f s u r) (moment new t (drop (parsed + taken) octets) q) 0) is at_end

  pub runs_opened : (next : Task) (at : Level) (ran : Option ℕ) (place one taken : ℕ) (mid : List Task) → next ≡ task.Run at place ran → Opens b at ran place before one mid → Leads runs b (task.Run at one ran ∷ mid) after (moment f s left r) (moment new t (drop taken left) q) 0 → Leads runs b (next ∷ before) after (moment f s (drop parsed octets) r) (moment new t (drop (parsed + taken) octets) q) 0
  runs_opened next at ran place one taken mid same opened leads =
      subst (λ (k : Task). Leads runs b (k ∷ before) after (moment f s (drop parsed octets) r) (moment new t (drop (parsed + taken) octets) q) 0) (sym same)
      (runs_task (task.Run at place ran) taken
      (was_opened b at ran place before runs one mid after (moment f s left r) (moment new t (drop taken left) q) opened leads))

module _ (runs : ℕ → Moment → Applied) (b : ReadyBlock) (octets left : List ℕ) (parsed : ℕ) (f new : Cells) (s : Contents) (r : Run) (before : List Task) (is : left ≡ drop parsed octets) where
  pub returns_task : (place : ℕ) → AreThere (count_of b) before → Comes (ground_of b.code) (going_on (given_back (outgoing_at (trees_of b.code) place)) (moment f s left r)) (moment new s left r) → Leads runs b (task.Return place ∷ before) before (moment f s (drop parsed octets) r) (moment new s (drop parsed octets) r) 0
  returns_task place there comes =
      let now : Comes (ground_of b.code) (going_on (given_back (outgoing_at (trees_of b.code) place)) (moment f s (drop parsed octets) r)) (moment new s (drop parsed octets) r) =
      subst (λ (u : List ℕ). Comes (ground_of b.code) (going_on (given_back (outgoing_at (trees_of b.code) place)) (moment f s u r)) (moment new s u r)) is comes in
      record { over = now.over; there = there; same = ap (finish runs b before) (sym now.comes); fewer = omega arith }

-- the loop

pub record Running (runs : ℕ → Moment → Applied) (b : ReadyBlock) (tasks : List Task) (due now : Moment) : Type 0 where
  pub over : IsOver (ground_of b.code) now
  pub there : AreThere (count_of b) tasks
  pub same : finish runs b tasks now ≡ due

module _ (runs : ℕ → Moment → Applied) (b : ReadyBlock) (due : Moment) where
  pub begins : (tasks : List Task) (now : Moment) → AreThere (count_of b) tasks → IsOver (ground_of b.code) now → Running runs b tasks (finish runs b tasks now) now
  begins tasks now there over = record { over = over; there = there; same = refl }

  pub goes : (first one : Task) (rest after left : List Task) (now next : Moment) → Leads runs b (first ∷ rest) after now next 0 → after ≡ one ∷ left → Running runs b (first ∷ rest) due now → Running runs b (one ∷ left) due next
  goes first one rest after left now next leads is so = record {
    over = leads.over;
    there = subst (AreThere (count_of b)) is leads.there;
    same = ap (λ (l : List Task). finish runs b l next) (sym is) ∙ leads.same ∙ so.same;
  }

  pub fewer : (first one : Task) (rest after left : List Task) (now next : Moment) → Leads runs b (first ∷ rest) after now next 0 → after ≡ one ∷ left → load b (one ∷ left) < load b (first ∷ rest)
  fewer first one rest after left now next leads is =
      let same : load b after ≡ load b (one ∷ left) = ap (load b) is in
      omega (arith, same, leads.fewer)

  pub ends : (first : Task) (rest after : List Task) (now next : Moment) → Leads runs b (first ∷ rest) after now next 0 → after ≡ [] → Running runs b (first ∷ rest) due now → Comes (ground_of b.code) due next
  ends first rest after now next leads none so = record {
    over = leads.over;
    comes = sym (ap (λ (l : List Task). finish runs b l next) (sym none) ∙ leads.same ∙ so.same);
  }

-- a task with none behind it

module _ (b : ReadyBlock) (tasks : List Task) (none : tasks ≡ []) where
  pub none_there : AreThere (count_of b) tasks
  none_there = subst (AreThere (count_of b)) (sym none) tt

  alone_came : (t : Task) (runs : ℕ → Moment → Applied) (old now : Moment) → Comes (ground_of b.code) (finish runs b (t ∷ tasks) old) now → Comes (ground_of b.code) (task_done runs b t old) now
  alone_came t runs old now comes = subst (λ (l : List Task). Comes (ground_of b.code) (finish runs b (t ∷ l) old) now) none comes

  pub alone_ran : (at : Level) (place : ℕ) (runs : ℕ → Moment → Applied) (old now : Moment) → Comes (ground_of b.code) (finish runs b (task.Run at place None ∷ tasks) old) now → Comes (ground_of b.code) (run (world_at runs (seen_block b) at) None (statement_at (trees_of b.code) place) old) now
  alone_ran at place runs old now comes = alone_came (task.Run at place None) runs old now comes

-- an action by itself

module _ (b : ReadyBlock) (at : Level) (action : ℕ) where
  pub one_there : (t : Task) (tasks : List Task) → Acts b at action (Some t) → tasks ≡ [] → AreThere (count_of b) (t ∷ tasks)
  one_there t tasks acts none = (acts.there, none_there b tasks none)

  pub nothing_acted : (m : Moment) → Acts b at action None → IsOver (ground_of b.code) m → Comes (ground_of b.code) (acted (seen_block b) (calls_at (seen_block b) at) action m) m
  nothing_acted m acts over = record { over = over; comes = sym (acts.same (λ table n. no_table_applies table n) m) }

  pub has_acted : (runs : ℕ → Moment → Applied) (t : Task) (tasks : List Task) (old now : Moment) → Acts b at action (Some t) → tasks ≡ [] → Comes (ground_of b.code) (finish runs b (t ∷ tasks) old) now → Comes (ground_of b.code) (acted (seen_block b) (calls_at (seen_block b) at) action old) now
  has_acted runs t tasks old now acts none comes = record {
    over = comes.over;
    comes = sym (acts.same runs old) ∙ (alone_came b tasks none t runs old now comes).comes;
  }
