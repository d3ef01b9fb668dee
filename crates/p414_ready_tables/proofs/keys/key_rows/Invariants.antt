use Rattle.std.proofs.Common.{◌≡◌, map, take}
use Rattle.p414_ready_tables.specs.Tables.{key_row}
use Rattle.p414_ready_tables.proofs.keys.key_rows.Given as goal

abbrev pub invariant-loop-read : goal.invariant-loop-read
invariant-loop-read l = l.rows ≡ map (key_row l.slots) (take l.read-index l.reads)
