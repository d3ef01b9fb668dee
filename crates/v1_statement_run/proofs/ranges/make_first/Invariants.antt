use Rattle.v1_ready_blocks.specs.Places.{made_first}
use Rattle.v1_statement_run.proofs.Turns.{Making}
use Rattle.v1_statement_run.proofs.ranges.make_first.Given as goal

abbrev pub invariant-loop-i : goal.invariant-loop-i
invariant-loop-i l = Making made_first l.count l.from l.i l.fn.frame l.frame
