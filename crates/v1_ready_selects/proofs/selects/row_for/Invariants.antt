use Rattle.std.proofs.Common.{◌≡◌, drop}
use Rattle.v1_ready_selects.specs.Selects.{row_for}
use Rattle.v1_ready_selects.specs.Seen.{seen_scalars}
use Rattle.v1_ready_selects.proofs.selects.row_for.Given as goal

abbrev pub invariant-loop-row : goal.invariant-loop-row
invariant-loop-row l = row_for (drop l.row-index l.rows) (seen_scalars l.keys) ≡ row_for l.rows (seen_scalars l.keys)
