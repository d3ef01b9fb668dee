use Rattle.std.proofs.Common.{◌≡◌, drop}
use Rattle.std.specs.List.{list_any}
use Rattle.p416_syntax.specs.Tables.{is_bad_key}
use Rattle.p416_table_check.proofs.keys.some_bad_key.Given as goal

abbrev pub invariant-loop-key : goal.invariant-loop-key
invariant-loop-key l = list_any is_bad_key (drop l.key-index l.keys) ≡ list_any is_bad_key l.keys
