use Rattle.std.proofs.Common.{length}
use Rattle.v1_ready_blocks.specs.Arguments.{all_entered}
use Rattle.v1_ready_blocks.specs.Nodes.{incoming_at}
use Rattle.v1_statement_run.specs.Seen.{moment}
use Rattle.v1_statement_run.specs.Steps.{ground_of, trees_of}
use Rattle.v1_statement_run.proofs.Turning.{Entering}
use Rattle.v1_statement_run.proofs.incoming.enter_all.Given as goal

abbrev pub invariant-loop-to : goal.invariant-loop-to
invariant-loop-to l =
    Entering (ground_of l.code) (trees_of l.code) (length l.code.statements.nodes) l.at (all_entered (incoming_at (trees_of l.code) l.fn.place) (moment l.fn.frame l.store l.unparsed l.run))
    (moment l.frame l.store l.unparsed l.run)

abbrev pub decreases-loop-to : goal.decreases-loop-to
decreases-loop-to l = l.at
