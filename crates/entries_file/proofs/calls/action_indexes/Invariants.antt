use Rattle.std.proofs.Common.{◌≡◌, ◌<◌, ℕ, length, map, get_or}
use Rattle.match_core.specs.declared.signatures.TableSig.{TableSig}
use Rattle.entries_file.specs.declared.name_index.NameIndex.{NameIndex}
use Rattle.entries_file.specs.Rules.{action_name}
use Rattle.entries_file.specs.internal.Drafts.{IsNameIndex}
use Rattle.entries_file.proofs.calls.action_indexes.Given as goal

abbrev pub invariant-loop-table : goal.invariant-loop-table
invariant-loop-table l = record {
  count : length l.indexes.items ≡ l.table-index;
  each : (table : ℕ) (d : TableSig) (e : NameIndex) → table < l.table-index → IsNameIndex (λ key. key.now) (get_or l.indexes.items table e).map (map action_name (get_or l.tables table d).actions);
}
