use Rattle.std.proofs.Common.{All, drop}
use Rattle.p414_ready_tables.specs.Tables.{FitsTable}
use Rattle.p414_ready_tables.proofs.ready.tables_fit.Given as goal

abbrev pub invariant-loop-table : goal.invariant-loop-table
invariant-loop-table l =
    All (FitsTable l.store.shapes) (drop l.table-index l.tables) → All (FitsTable l.store.shapes) l.tables
