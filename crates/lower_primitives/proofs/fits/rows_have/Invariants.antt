use Rattle.std.proofs.Common.{drop}
use Rattle.lower_primitives.specs.Has.{RowsHave}
use Rattle.lower_primitives.proofs.fits.rows_have.Given as goal

-- where those that are left have it, all have
abbrev pub invariant-loop-row : goal.invariant-loop-row
invariant-loop-row l = RowsHave l.table (drop l.row-index l.rows) → RowsHave l.table l.rows
