use Rattle.std.proofs.Common.{◌≡◌, ◌+◌, ◌≤◌, drop}
use Rattle.std.specs.Prelude.{count_by}
use Rattle.p416_syntax.specs.Tables.{is_prefix_key}
use Rattle.p416_table_check.proofs.keys.count_prefix_keys.Given as goal

abbrev pub invariant-loop-key : goal.invariant-loop-key
invariant-loop-key l = (l.count + count_by is_prefix_key (drop l.key-index l.keys) ≡ count_by is_prefix_key l.keys) × (l.count ≤ l.key-index)
