-- Which block a ready block is, and which one can be run (this project's own).
use Rattle.std.specs.Prelude.{ℕ, ◌<◌, List, length, map, All, option_map}
use Rattle.v1_core.specs.Nodes.{ready_at}
use Rattle.v1_ready_blocks.specs.Nodes.{statement_at}
use Rattle.v1_ready_blocks.specs.Statements.{Statement}
use Rattle.v1_ready_blocks.specs.Tables as tables
use Rattle.v1_ready_blocks.specs.Blocks.{Block}
use Rattle.v1_statement_run.specs.Steps.{IsCode, expressions_in, trees_of}
use Rattle.v1_block_run.specs.declared.block.Chosen.{Chosen}
use Rattle.v1_block_run.specs.declared.block.ReadyAction.{ReadyAction}
use Rattle.v1_block_run.specs.declared.block.ReadyTable.{ReadyTable}
use Rattle.v1_block_run.specs.declared.block.ReadyBlock.{ReadyBlock}

-- the call that a table's default is
abbrev pub seen_chosen : Chosen → tables.Chosen
seen_chosen k = record { action = k.action; number = k.number; arguments = k.arguments }

-- which table of the definitions a ready table is
abbrev pub seen_table : ReadyBlock → ReadyTable → tables.Table
seen_table b t = record {
  number = t.number;
  keys = map (ready_at (expressions_in b.code)) t.keys;
  direct = t.direct;
  actions = t.actions;
  default = option_map seen_chosen t.default;
}

-- the statement that an action's body is
abbrev pub seen_body : ReadyBlock → ReadyAction → Statement
seen_body b a = statement_at (trees_of b.code) a.body

-- the slots of an action's parameters
abbrev pub seen_parameters : ReadyAction → List ℕ
seen_parameters a = a.parameters

-- which block of the definitions a ready block is
abbrev pub seen_block : ReadyBlock → Block
seen_block b = record {
  bodies = map (seen_body b) b.actions;
  parameters = map seen_parameters b.actions;
  tables = map (seen_table b) b.tables;
  body = statement_at (trees_of b.code) b.body;
}

-- how many nodes its statements have
abbrev pub count_of : ReadyBlock → ℕ
count_of b = length b.code.statements.nodes

-- what is named by its place is there
pub record HasBody (count : ℕ) (a : ReadyAction) : Type 0 where
  pub body : a.body < count

-- a block that can be run: its nodes are in order, and each body is there
pub record IsRunnable (b : ReadyBlock) : Type 0 where
  pub code : IsCode b.code
  pub bodies : All (HasBody (count_of b)) b.actions
