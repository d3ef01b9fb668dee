use Rattle.v1_statement_run.proofs.Windows.{FillingAhead}
use Rattle.v1_statement_run.proofs.packets.fill.Given as goal

abbrev pub invariant-loop-i : goal.invariant-loop-i
invariant-loop-i l = FillingAhead l.octets l.window l.count l.slot l.i l.at l.fn.frame l.frame
