-- A block: its actions, its tables and its statements (P4_16 1.2, "Control blocks", "Actions"). It begins with the variables of
-- the block, which all start at 0, and then with their initial values in order.
use Rattle.std.specs.Prelude.{ℕ, zero, suc, List, [], length, slice_index_or, None}
use Rattle.v1_ready_blocks.specs.Moments.{Moment}
use Rattle.v1_ready_blocks.specs.Tests.{World, Applied, no_table_applies, quiet_world}
use Rattle.v1_ready_blocks.specs.Tables.{Table, Fill, applied}
use Rattle.v1_ready_blocks.specs.Statements.{Statement, nothing, run}

pub record Block : Type 0 where
  -- the bodies of the actions, and the slots of their parameters where tables call them
  pub bodies : List Statement
  pub parameters : List (List ℕ)
  pub tables : List Table
  pub body : Statement

abbrev pub body_of : Block → ℕ → Statement
body_of b action = slice_index_or b.bodies action nothing

abbrev pub no_table : Table
no_table = record { number = 0; keys = []; direct = None; actions = []; default = None }

abbrev pub table_of : Block → ℕ → Table
table_of b table = slice_index_or b.tables table no_table

-- The body of an action, where calls of actions nest so deep at most. No action calls itself through others, so no chain of
-- calls is longer than the number of actions; and no action applies a table.
abbrev pub acted : Block → ℕ → ℕ → Moment → Moment
acted b zero action m = m
acted b (suc calls) action m =
    run (record { act = acted b calls; apply = no_table_applies }) None (body_of b action) m

abbrev pub act : Block → ℕ → Moment → Moment
act b action m = acted b (length b.bodies) action m

abbrev pub table_applied : Fill → Block → ℕ → Moment → Applied
table_applied f b table m = applied f b.parameters (act b) (table_of b table) m

abbrev pub world_of : Fill → Block → World
world_of f b = record { act = act b; apply = table_applied f b }

-- what a block leaves
abbrev pub ready_run : Fill → Block → Moment → Moment
ready_run f b m = run (world_of f b) None b.body m

-- what statements of a parser leave
abbrev pub parser_run : Statement → Moment → Moment
parser_run s m = run quiet_world None s m
