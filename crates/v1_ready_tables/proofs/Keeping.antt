-- Keys and tables stay what they are while more is held.
use Rattle.std.proofs.Common.{◌≡◌, ℕ, ◌<◌, ◌≤◌, List, length, ap, arith}
use Rattle.std.specs.Prelude.{option_map}
use Rattle.v1_core.specs.Ready.{Ready}
use Rattle.v1_core.specs.Nodes.{ready_at}
use Rattle.v1_ready_blocks.specs.Tables.{Table}
use Rattle.v1_block_run.specs.declared.block.ReadyTable.{ReadyTable}
use Rattle.v1_block_run.specs.Blocks.{seen_chosen}
use Rattle.v1_ready_nodes.specs.Held.{Held, ready_in, Grows}
use Rattle.v1_ready_tables.specs.Seen.{seen_table, IsTableIn}
use Rattle.v1_ready_bodies.proofs.Grown.{all_kept, all_wider}

abbrev pub sees_key : Held → ℕ → Ready
sees_key h place = ready_at (ready_in h) place

abbrev pub IsKeyIn : Held → ℕ → Type 0
IsKeyIn h place = place < length (ready_in h)

abbrev with_keys : ReadyTable → List Ready → Table
with_keys t keys = record { number = t.number; keys = keys; direct = t.direct; actions = t.actions; default = option_map seen_chosen t.default }

module _ (h g : Held) (grows : Grows h g) where
  pub key_kept : (place : ℕ) → IsKeyIn h place → sees_key g place ≡ sees_key h place
  key_kept place within = grows.ready.places place within

  pub key_wider : (place : ℕ) → IsKeyIn h place → IsKeyIn g place
  key_wider place within = let more : length (ready_in h) ≤ length (ready_in g) = grows.ready.grows in omega arith

  pub table_kept : (t : ReadyTable) → IsTableIn h t → seen_table g t ≡ seen_table h t
  table_kept t within =
      ap (with_keys t) (all_kept sees_key IsKeyIn h g key_kept key_wider t.keys within.keys)

  pub table_wider : (t : ReadyTable) → IsTableIn h t → IsTableIn g t
  table_wider t within = record { keys = all_wider sees_key IsKeyIn h g key_kept key_wider t.keys within.keys }
