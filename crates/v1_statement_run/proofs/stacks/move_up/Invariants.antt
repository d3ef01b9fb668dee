use Rattle.v1_statement_run.proofs.Turns.{MovingUp}
use Rattle.v1_statement_run.proofs.stacks.move_up.Given as goal

abbrev pub invariant-loop-left : goal.invariant-loop-left
invariant-loop-left l = MovingUp l.stack l.distance l.count l.left l.fn.frame l.frame

abbrev pub decreases-loop-left : goal.decreases-loop-left
decreases-loop-left l = l.left
