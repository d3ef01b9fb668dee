use Rattle.std.proofs.Common.{take}
use Rattle.lower_bodies.proofs.Passing.{Passed}
use Rattle.lower_bodies.proofs.apart.are_rows_apart.Given as goal

abbrev pub invariant-loop-row : goal.invariant-loop-row
invariant-loop-row l = Passed l.items (take l.row-index l.rows) l.changed l.apart
