-- The keys of tables, and the entry that they find.
use Rattle.std.proofs.Common.{◌≡◌, ℕ, ◌<◌, List, [], ◌∷◌, length, map, All, Option, slice_index_or, refl, sym, ap, ◌∙◌}
use Rattle.match_core.specs.Best.{best}
use Rattle.state_store.specs.State.{Contents}
use Rattle.v1_core.specs.Cells.{Cells}
use Rattle.v1_core.specs.Ready.{Ready, ready_value}
use Rattle.v1_core.specs.Nodes.{ready_at}
use Rattle.v1_ready_blocks.specs.Tables.{Fill, found, key_number, no_table}
use Rattle.v1_statement_run.specs.declared.run.Run.{Run}
use Rattle.v1_statement_run.specs.Seen.{moment}
use Rattle.v1_statement_run.specs.declared.code.Code.{Code}
use Rattle.v1_statement_run.specs.Steps.{IsOver, expressions_in, ground_of}
use Rattle.v1_block_run.specs.declared.block.ReadyTable.{ReadyTable}
use Rattle.v1_block_run.specs.declared.block.ReadyBlock.{ReadyBlock}
use Rattle.v1_block_run.specs.Blocks.{seen_table}
use Rattle.v1_block_tables.specs.Parts.{CanApply, HasKeys, key_at}

abbrev key_in : Cells → List ℕ → Ready → ℕ
key_in f u e = key_number (ready_value f u e)

twice : (c : Code) (f : Cells) (u : List ℕ) (places : List ℕ) → map (key_at c f u) places ≡ map (key_in f u) (map (ready_at (expressions_in c)) places)
twice c f u [] = refl
twice c f u (place ∷ places) = ap (λ (rest : List ℕ). key_at c f u place ∷ rest) (twice c f u places)

pub entry_found : (fill : Fill) (b : ReadyBlock) (t : ReadyTable) (f : Cells) (s : Contents) (u keys places : List ℕ) (r : Run) (entry : Option ℕ) → places ≡ t.keys → keys ≡ map (key_at b.code f u) places → entry ≡ best (slice_index_or fill.tables t.number no_table) keys → entry ≡ found fill (moment f s u r) (seen_table b t)
entry_found fill b t f s u keys places r entry same are is =
    is
    ∙ ap (best (slice_index_or fill.tables t.number no_table))
    (are ∙ ap (map (key_at b.code f u)) same ∙ twice b.code f u t.keys)

pub keys_there : (b : ReadyBlock) (t : ReadyTable) → HasKeys (length b.code.expressions.nodes) t → All (λ place. place < length b.code.expressions.nodes) t.keys
keys_there b t has = has.keys

pub keys_layout : (b : ReadyBlock) (f : Cells) (s : Contents) (u : List ℕ) (r : Run) → CanApply b → IsOver (ground_of b.code) (moment f s u r) → f.layout ≡ b.code.expressions.layout
keys_layout b f s u r can over = over.cells ∙ sym can.runnable.code.layout
