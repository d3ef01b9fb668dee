-- Which parts of a block its tables ask for, and what a look-up finds (this project's own).
use Rattle.std.specs.Prelude.{ℕ, ◌<◌, List, length, All}
use Rattle.v1_core.specs.Cells.{Cells}
use Rattle.v1_core.specs.Layouts.{Layout}
use Rattle.v1_core.specs.Nodes.{ready_at}
use Rattle.v1_core.specs.Ready.{ready_value}
use Rattle.v1_ready_blocks.specs.Nodes.{IsSlot}
use Rattle.v1_ready_blocks.specs.Tables.{key_number}
use Rattle.v1_statement_run.specs.declared.code.Code.{Code}
use Rattle.v1_statement_run.specs.Steps.{expressions_in, ground_of}
use Rattle.v1_block_run.specs.declared.block.ReadyAction.{ReadyAction}
use Rattle.v1_block_run.specs.declared.block.ReadyTable.{ReadyTable}
use Rattle.v1_block_run.specs.declared.block.ReadyBlock.{ReadyBlock}
use Rattle.v1_block_run.specs.Blocks.{IsRunnable, count_of}

-- the places of keys are those of expressions
pub record HasKeys (expressions : ℕ) (t : ReadyTable) : Type 0 where
  pub keys : All (λ place. place < expressions) t.keys

-- the parameters of an action are slots
pub record HasParameters (l : Layout) (a : ReadyAction) : Type 0 where
  pub slots : All (IsSlot l) a.parameters

-- what a caller owes of a block that is run with its tables
pub record CanApply (b : ReadyBlock) : Type 0 where
  pub runnable : IsRunnable b
  pub body : b.body < count_of b
  pub keys : All (HasKeys (length b.code.expressions.nodes)) b.tables
  pub parameters : All (HasParameters (ground_of b.code).layout) b.actions

-- the number of the key at a place of expressions
abbrev pub key_at : Code → Cells → List ℕ → ℕ → ℕ
key_at c cells unparsed place = key_number (ready_value cells unparsed (ready_at (expressions_in c) place))
