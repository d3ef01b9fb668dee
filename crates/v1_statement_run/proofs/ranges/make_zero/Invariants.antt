use Rattle.v1_ready_blocks.specs.Places.{made_zero}
use Rattle.v1_statement_run.proofs.Turns.{Making}
use Rattle.v1_statement_run.proofs.ranges.make_zero.Given as goal

abbrev pub invariant-loop-i : goal.invariant-loop-i
invariant-loop-i l = Making made_zero l.count l.from l.i l.fn.frame l.frame
