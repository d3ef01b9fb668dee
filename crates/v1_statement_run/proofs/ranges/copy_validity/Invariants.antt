use Rattle.v1_ready_blocks.specs.Places.{validity_taken}
use Rattle.v1_statement_run.proofs.Turns.{Copying}
use Rattle.v1_statement_run.proofs.ranges.copy_validity.Given as goal

abbrev pub invariant-loop-i : goal.invariant-loop-i
invariant-loop-i l = Copying validity_taken l.count l.from l.to l.i l.fn.frame l.frame
