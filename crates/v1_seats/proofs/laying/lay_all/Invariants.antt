use Rattle.v1_seats.specs.internal.Rows.{AreStructs}
use Rattle.v1_seats.proofs.laying.lay_all.Given as goal

abbrev pub invariant-loop-number : goal.invariant-loop-number
invariant-loop-number l = AreStructs l.rows.types l.rows.names l.laid.items
