use Rattle.std.proofs.Common.{◌≡◌, map, take}
use Rattle.p414_ready_tables.specs.Tables.{row_value}
use Rattle.p414_ready_tables.proofs.keys.key_of.Given as goal

abbrev pub invariant-loop-row : goal.invariant-loop-row
invariant-loop-row l = l.key ≡ map (row_value l.state.state) (take l.row-index l.rows)
