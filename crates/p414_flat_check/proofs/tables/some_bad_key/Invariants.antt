use Rattle.std.proofs.Common.{◌≡◌, drop}
use Rattle.std.specs.List.{list_any}
use Rattle.p414_syntax.specs.Tables.{is_bad_key}
use Rattle.p414_flat_check.proofs.tables.some_bad_key.Given as goal

abbrev pub invariant-loop-read : goal.invariant-loop-read
invariant-loop-read l = list_any (is_bad_key l.names) (drop l.read-index l.reads) ≡ list_any (is_bad_key l.names) l.reads
