use Rattle.std.proofs.Common.{length}
use Rattle.v1_ready_blocks.specs.Arguments.{all_back}
use Rattle.v1_ready_blocks.specs.Nodes.{outgoing_at}
use Rattle.v1_statement_run.specs.Steps.{trees_of}
use Rattle.v1_statement_run.proofs.Leaving.{Leaving}
use Rattle.v1_statement_run.proofs.outgoing.give_back.Given as goal

abbrev pub invariant-loop-from : goal.invariant-loop-from
invariant-loop-from l = Leaving (trees_of l.code) (length l.code.statements.nodes) l.at (all_back (outgoing_at (trees_of l.code) l.fn.place) l.fn.frame) l.fn.frame l.frame

abbrev pub decreases-loop-from : goal.decreases-loop-from
decreases-loop-from l = l.at
