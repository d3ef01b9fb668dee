use Rattle.v1_statement_run.proofs.Turns.{MovingDown}
use Rattle.v1_statement_run.proofs.stacks.move_down.Given as goal

abbrev pub invariant-loop-i : goal.invariant-loop-i
invariant-loop-i l = MovingDown l.stack l.distance l.count l.i l.fn.frame l.frame
