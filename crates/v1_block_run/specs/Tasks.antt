-- What tasks come to, one after another, and how many steps they take at most (this project's own).
use Rattle.std.specs.Prelude.{ℕ, zero, suc, ◌+◌, ◌<◌, List, [], ◌∷◌, length}
use Rattle.v1_ready_blocks.specs.Moments.{Moment, going_on}
use Rattle.v1_ready_blocks.specs.Tests.{World, Applied, no_table_applies}
use Rattle.v1_ready_blocks.specs.Arguments.{given_back}
use Rattle.v1_ready_blocks.specs.Statements.{Statement, nothing, sequence, start, does, call, branch, switch, labelled, otherwise, run}
use Rattle.v1_ready_blocks.specs.Blocks.{Block, acted, body_of}
use Rattle.v1_ready_blocks.specs.Nodes.{statement_at, outgoing_at}
use Rattle.v1_statement_run.specs.Steps.{trees_of}
use Rattle.v1_block_run.specs.declared.tasks.Level.{Level}
use Rattle.v1_block_run.specs.declared.tasks.Level.TheVariants as level
use Rattle.v1_block_run.specs.declared.tasks.Task.{Task}
use Rattle.v1_block_run.specs.declared.tasks.Task.TheVariants as task
use Rattle.v1_block_run.specs.declared.block.ReadyBlock.{ReadyBlock}
use Rattle.v1_block_run.specs.Blocks.{seen_block}

-- what tables do where statements stand, where they do this in the block
abbrev pub applies_at : Level → (ℕ → Moment → Applied) → ℕ → Moment → Applied
applies_at level.Block runs = runs
applies_at (level.Action calls) runs = no_table_applies

-- how deep calls of actions nest there at most
abbrev pub calls_at : Block → Level → ℕ
calls_at b level.Block = length b.bodies
calls_at b (level.Action calls) = calls

-- what actions and tables do there
abbrev pub world_at : (ℕ → Moment → Applied) → Block → Level → World
world_at runs b at = record { act = acted b (calls_at b at); apply = applies_at at runs }

-- a task
abbrev pub task_done : (ℕ → Moment → Applied) → ReadyBlock → Task → Moment → Moment
task_done runs b (task.Run at place ran) m = run (world_at runs (seen_block b) at) ran (statement_at (trees_of b.code) place) m
task_done runs b (task.Return place) m = going_on (given_back (outgoing_at (trees_of b.code) place)) m

-- what is left to be done, the first one first
abbrev pub finish : (ℕ → Moment → Applied) → ReadyBlock → List Task → Moment → Moment
finish runs b [] m = m
finish runs b (t ∷ tasks) m = finish runs b tasks (task_done runs b t m)

-- what tasks name by its place is there

abbrev pub IsThere : ℕ → Task → Type 0
IsThere count (task.Run at place ran) = place < count
IsThere count (task.Return place) = place < count

abbrev pub AreThere : ℕ → List Task → Type 0
AreThere count [] = Unit {0}
AreThere count (t ∷ tasks) = IsThere count t × AreThere count tasks

-- how many steps a statement takes at most, where the bodies of actions take so many
abbrev pub steps : (ℕ → ℕ) → Statement → ℕ
steps body nothing = 1
steps body (sequence a b) = 1 + steps body a + steps body b
steps body (start at) = 1
steps body (does deed) = 1
steps body (call action apart incoming outgoing) = 2 + body action
steps body (branch c a b) = 1 + steps body a + steps body b
steps body (switch table cases) = 1 + steps body cases
steps body (labelled action a cases) = 1 + steps body a + steps body cases
steps body (otherwise a) = 1 + steps body a

-- how many steps the body of an action takes at most, where calls nest so deep
abbrev pub body_steps : Block → ℕ → ℕ → ℕ
body_steps b zero action = 0
body_steps b (suc calls) action = steps (body_steps b calls) (body_of b action)

-- how many steps a task takes at most
abbrev pub task_steps : ReadyBlock → Task → ℕ
task_steps b (task.Run at place ran) =
    steps (body_steps (seen_block b) (calls_at (seen_block b) at)) (statement_at (trees_of b.code) place)
task_steps b (task.Return place) = 1

-- how many steps tasks take together at most
abbrev pub load : ReadyBlock → List Task → ℕ
load b [] = 0
load b (t ∷ tasks) = task_steps b t + load b tasks
