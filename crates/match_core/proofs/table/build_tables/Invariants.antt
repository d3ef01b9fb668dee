use Rattle.std.proofs.Common.{◌≡◌, take}
use Rattle.match_core.specs.Tables.{filled_tables}
use Rattle.match_core.proofs.table.build_tables.Given as goal

abbrev pub invariant-loop-i : goal.invariant-loop-i
invariant-loop-i l = l.tables ≡ filled_tables (take l.i l.sigs) (take l.i l.fills)
