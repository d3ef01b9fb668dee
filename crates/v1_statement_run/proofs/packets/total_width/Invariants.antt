use Rattle.v1_statement_run.proofs.Packing.{Totalling}
use Rattle.v1_statement_run.proofs.packets.total_width.Given as goal

abbrev pub invariant-loop-i : goal.invariant-loop-i
invariant-loop-i l = Totalling l.frame l.count l.slot l.i l.total
