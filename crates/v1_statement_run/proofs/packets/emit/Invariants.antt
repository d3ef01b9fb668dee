use Rattle.v1_statement_run.proofs.Packing.{Emitting}
use Rattle.v1_statement_run.proofs.packets.emit.Given as goal

abbrev pub invariant-loop-i : goal.invariant-loop-i
invariant-loop-i l = Emitting l.frame l.range l.i l.fn.emitted l.emitted
