-- What a node of a statement does, and what a step comes to (P4_16 1.2, "Statements").
use Rattle.std.specs.Prelude.{◌≡◌, ℕ, ◌+◌, ◌<◌, ◌%◌, ◌^◌, Bool, true, false, if◌then◌else◌, List, ◌∷◌, Option, Some, None, IfSome}
use Rattle.v1_core.specs.Values.{is_true}
use Rattle.v1_ready_blocks.specs.declared.nodes.StatementNode.{StatementNode}
use Rattle.v1_ready_blocks.specs.declared.nodes.StatementNode.TheVariants as node
use Rattle.v1_ready_blocks.specs.Moments.{Moment, going_on}
use Rattle.v1_ready_blocks.specs.Tests.{World, Applied, Test, test_value, with_test}
use Rattle.v1_ready_blocks.specs.Arguments.{given_back}
use Rattle.v1_ready_blocks.specs.Statements.{assign, assign_parts, set_valid, push_front, pop_front, extract_header, emit_headers, execute, apply, let_go, done, called, Statement, sequence, start, labelled, otherwise, run}
use Rattle.v1_ready_blocks.specs.Blocks.{acted}
use Rattle.v1_ready_blocks.specs.Nodes.{Tree, test_at, source_at, arguments_at, incoming_at, outgoing_at, statement_at}
use Rattle.v1_statement_run.specs.declared.run.Run.{Run}
use Rattle.v1_statement_run.specs.Steps.{IsOver, ground_of, trees_of}
use Rattle.v1_block_run.specs.declared.tasks.Level.{Level}
use Rattle.v1_block_run.specs.declared.tasks.Task.{Task}
use Rattle.v1_block_run.specs.declared.tasks.Task.TheVariants as task
use Rattle.v1_block_run.specs.declared.block.ReadyBlock.{ReadyBlock}
use Rattle.v1_block_run.specs.Blocks.{seen_block, count_of}
use Rattle.v1_block_run.specs.Tasks.{AreThere, IsThere, body_steps, calls_at, finish, load, task_done, task_steps}

-- one that counts when it begins to run
abbrev pub is_counted : StatementNode → Bool
is_counted node.Nothing = false
is_counted (node.Sequence a b) = false
is_counted (node.Start r) = false
is_counted (node.Labelled action a b) = false
is_counted (node.Otherwise a) = false
is_counted _ = true

-- one that comes often
abbrev pub is_often : StatementNode → Bool
is_often (node.Assign to slice a) = true
is_often (node.Extract header) = true
is_often (node.Emit a) = true
is_often (node.Execute what a) = true
is_often (node.Apply table) = true
is_often (node.Branch c a b) = true
is_often _ = false

-- what one does that doesn't count
abbrev pub arranged : World → Option ℕ → List Tree → StatementNode → Moment → Moment
arranged w ran ts (node.Sequence a b) m = run w ran (sequence (statement_at ts a) (statement_at ts b)) m
arranged w ran ts (node.Start r) m = run w ran (start r) m
arranged w ran ts (node.Labelled action a b) m = run w ran (labelled action (statement_at ts a) (statement_at ts b)) m
arranged w ran ts (node.Otherwise a) m = run w ran (otherwise (statement_at ts a)) m
arranged w ran ts _ m = m

-- what one does that counts, once it is counted

-- what a branch leaves
abbrev pub branched : World → Test → Statement → Statement → Moment → Moment
branched w c positive negative m =
    with_test (test_value w.apply c m) (λ v n. if is_true v then run w None positive n else run w None negative n)

-- what a switch leaves
abbrev pub switched : World → ℕ → Statement → Moment → Moment
switched w table cases m = let a = w.apply table m in run w a.action cases a.moment

-- what a node that counts leaves
abbrev pub begun : World → List Tree → StatementNode → Moment → Moment
begun w ts (node.Assign to slice a) m = done w.apply (assign to slice (test_at ts a)) m
begun w ts (node.AssignParts to a) m = done w.apply (assign_parts to (source_at ts a)) m
begun w ts (node.SetValid header on) m = done w.apply (set_valid header on) m
begun w ts (node.PushFront stack count) m = done w.apply (push_front stack count) m
begun w ts (node.PopFront stack count) m = done w.apply (pop_front stack count) m
begun w ts (node.Extract header) m = done w.apply (extract_header header) m
begun w ts (node.Emit a) m = done w.apply (emit_headers (source_at ts a)) m
begun w ts (node.Execute what a) m = done w.apply (execute what (arguments_at ts a)) m
begun w ts (node.Apply table) m = done w.apply (apply table) m
begun w ts (node.LetGo a) m = done w.apply (let_go (test_at ts a)) m
begun w ts (node.Call action apart a b) m = called w action apart (incoming_at ts a) (outgoing_at ts b) m
begun w ts (node.Branch c a b) m = branched w (test_at ts c) (statement_at ts a) (statement_at ts b) m
begun w ts (node.Switch table a) m = switched w table (statement_at ts a) m
begun w ts _ m = m

-- one more statement began
abbrev pub ticked_run : Run → Run
ticked_run r = record r { work = (r.work + 1) % 2 ^ 64 }

-- A step: what was due before others is that others are done from a moment now, which come to the same, in fewer steps than it
-- takes at most.
pub record Leads (runs : ℕ → Moment → Applied) (b : ReadyBlock) (before after : List Task) (due now : Moment) (most : ℕ) : Type 0 where
  pub over : IsOver (ground_of b.code) now
  pub there : AreThere (count_of b) after
  pub same : finish runs b after now ≡ finish runs b before due
  pub fewer : load b after < most + load b before

-- The statements at a place are the first one of them, and the others behind it.
pub record Opens (b : ReadyBlock) (at : Level) (ran : Option ℕ) (place : ℕ) (before : List Task) (first : ℕ) (after : List Task) : Type 0 where
  pub here : first < count_of b
  pub there : AreThere (count_of b) after
  pub same : (runs : ℕ → Moment → Applied) (m : Moment) →
      finish runs b (task.Run at first ran ∷ after) m ≡ finish runs b (task.Run at place ran ∷ before) m
  pub few : load b (task.Run at first ran ∷ after) < 1 + load b (task.Run at place ran ∷ before)

-- calls

-- what a task leaves, if there is one
abbrev pub done_by : (ℕ → Moment → Applied) → ReadyBlock → Option Task → Moment → Moment
done_by runs b None m = m
done_by runs b (Some t) m = task_done runs b t m

-- how many steps a task takes at most, if there is one
abbrev pub steps_of : ReadyBlock → Option Task → ℕ
steps_of b None = 0
steps_of b (Some t) = task_steps b t

-- a task that does what an action does which is called there
pub record Acts (b : ReadyBlock) (at : Level) (action : ℕ) (t : Option Task) : Type 0 where
  pub same : (runs : ℕ → Moment → Applied) (m : Moment) → done_by runs b t m ≡ acted (seen_block b) (calls_at (seen_block b) at) action m
  pub there : IfSome t (IsThere (count_of b))
  pub few : steps_of b t < 1 + body_steps (seen_block b) (calls_at (seen_block b) at) action

-- tasks that do what the action does, and then give its parameters back
pub record Enters (b : ReadyBlock) (at : Level) (action outgoing : ℕ) (before after : List Task) : Type 0 where
  pub there : AreThere (count_of b) after
  pub same : (runs : ℕ → Moment → Applied) (m : Moment) →
      finish runs b after m ≡ finish runs b before (going_on (given_back (outgoing_at (trees_of b.code) outgoing)) (acted (seen_block b) (calls_at (seen_block b) at) action m))
  pub few : load b after < 2 + body_steps (seen_block b) (calls_at (seen_block b) at) action + load b before
