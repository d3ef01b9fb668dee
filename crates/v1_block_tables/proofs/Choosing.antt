-- The call that an application makes.
use Rattle.std.proofs.Common.{◌≡◌, ℕ, List, Option, Some, None, slice_index_or, ap, ◌∙◌}
use Rattle.std.specs.Prelude.{option_map}
use Rattle.match_core.specs.declared.entries.Entry.{Entry}
use Rattle.match_core.specs.declared.entries.DefaultCall.{DefaultCall}
use Rattle.match_core.specs.Best.{entry_at}
use Rattle.v1_ready_blocks.specs.Tables.{Chosen, Fill, chosen, chosen_on_miss, no_fill, no_table}
use Rattle.v1_block_run.specs.declared.block.ReadyTable.{ReadyTable}
use Rattle.v1_block_run.specs.declared.block.ReadyBlock.{ReadyBlock}
use Rattle.v1_block_run.specs.Blocks.{seen_chosen, seen_table}
use Rattle.v1_block_tables.specs.declared.calls.Call.{Call}
use Rattle.v1_block_tables.specs.Applying.{called_default, called_entry, seen_call}

module _ (f : Fill) (b : ReadyBlock) (t : ReadyTable) where
  pub chosen_hit : (entry : ℕ) (entries : List Entry) (c : Call) → entries ≡ (slice_index_or f.tables t.number no_table).entries → seen_call c ≡ called_entry t.actions (entry_at entries entry) → Some (seen_call c) ≡ chosen f (seen_table b t) (Some entry)
  chosen_hit entry entries c are is =
      ap (λ (k : Chosen). Some k) (is ∙ ap (λ (l : List Entry). called_entry t.actions (entry_at l entry)) are)

  pub chosen_set : (d : DefaultCall) (c : Call) → Some d ≡ (slice_index_or f.fills t.number no_fill).default → seen_call c ≡ called_default t.actions d → Some (seen_call c) ≡ chosen f (seen_table b t) None
  chosen_set d c set is =
      ap (λ (k : Chosen). Some k) is ∙ ap (chosen_on_miss (seen_table b t)) set

  pub chosen_own : (o : Option Chosen) → None ≡ (slice_index_or f.fills t.number no_fill).default → o ≡ option_map seen_chosen t.default → o ≡ chosen f (seen_table b t) None
  chosen_own o none is = is ∙ ap (chosen_on_miss (seen_table b t)) none
