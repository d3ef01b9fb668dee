use Rattle.std.proofs.Common.{◌≡◌, take}
use Rattle.match_core.proofs.entries.copy_tables.Given as goal

abbrev pub invariant-loop-fill : goal.invariant-loop-fill
invariant-loop-fill l = l.copied ≡ take l.fill-index l.tables
