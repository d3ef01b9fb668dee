-- The actions that those of code are, over what is held, and what is owed of a ready block.
use Rattle.std.specs.Prelude.{◌≡◌, ◌<◌, List, length, map, All}
use Rattle.state_store.specs.declared.shapes.Shape.{Shape}
use Rattle.v1_core.specs.Layouts.{Layout}
use Rattle.v1_ready_blocks.specs.Nodes.{IsSlot, statement_at}
use Rattle.v1_ready_blocks.specs.Statements.{Statement}
use Rattle.v1_statement_run.specs.Steps.{ground_of}
use Rattle.v1_block_run.specs.declared.block.ReadyAction.{ReadyAction}
use Rattle.v1_block_run.specs.declared.block.ReadyBlock.{ReadyBlock}
use Rattle.v1_block_tables.specs.Parts.{CanApply}
use Rattle.v1_ready_nodes.specs.Held.{Held, trees_in}

abbrev pub seen_body : Held → ReadyAction → Statement
seen_body h a = statement_at (trees_in h) a.body

abbrev pub seen_bodies : Held → List ReadyAction → List Statement
seen_bodies h actions = map (seen_body h) actions

-- the body is there, and parameters are slots
pub record IsActionIn (l : Layout) (h : Held) (a : ReadyAction) : Type 0 where
  pub body : a.body < length (trees_in h)
  pub slots : All (IsSlot l) a.parameters

abbrev pub code_of : ReadyBlock → Held
code_of b = record { expressions = b.code.expressions; statements = b.code.statements }

-- it speaks of frames of this layout and of objects of these shapes, and can be run with its tables
pub record IsReadyOver (l : Layout) (objects : List Shape) (b : ReadyBlock) : Type 0 where
  pub layout : (ground_of b.code).layout ≡ l
  pub shapes : (ground_of b.code).shapes ≡ objects
  pub applies : CanApply b
