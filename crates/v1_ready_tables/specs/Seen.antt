-- The ready tables that those of code are, over what is held, and that what they name is there.
use Rattle.std.specs.Prelude.{ℕ, ◌<◌, List, length, map, option_map, All}
use Rattle.v1_core.specs.Ready.{Ready}
use Rattle.v1_core.specs.Nodes.{ready_at}
use Rattle.v1_ready_blocks.specs.Tables.{Table}
use Rattle.v1_block_run.specs.declared.block.ReadyTable.{ReadyTable}
use Rattle.v1_block_run.specs.Blocks.{seen_chosen}
use Rattle.v1_ready_nodes.specs.Held.{Held, ready_in}

abbrev pub seen_keys : Held → List ℕ → List Ready
seen_keys h places = map (ready_at (ready_in h)) places

abbrev pub seen_table : Held → ReadyTable → Table
seen_table h t = record {
  number = t.number;
  keys = seen_keys h t.keys;
  direct = t.direct;
  actions = t.actions;
  default = option_map seen_chosen t.default;
}

abbrev pub seen_tables : Held → List ReadyTable → List Table
seen_tables h ts = map (seen_table h) ts

-- the places of keys are those of expressions

abbrev pub AreKeysIn : Held → List ℕ → Type 0
AreKeysIn h places = All (λ place. place < length (ready_in h)) places

pub record IsTableIn (h : Held) (t : ReadyTable) : Type 0 where
  pub keys : AreKeysIn h t.keys
