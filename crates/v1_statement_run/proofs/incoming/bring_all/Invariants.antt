use Rattle.std.proofs.Common.{length}
use Rattle.v1_ready_blocks.specs.Arguments.{all_in}
use Rattle.v1_ready_blocks.specs.Nodes.{incoming_at}
use Rattle.v1_statement_run.specs.Seen.{moment}
use Rattle.v1_statement_run.specs.Steps.{ground_of, trees_of}
use Rattle.v1_statement_run.specs.Bringing.{brought}
use Rattle.v1_statement_run.proofs.Turning.{Going}
use Rattle.v1_statement_run.proofs.incoming.bring_all.Given as goal

abbrev pub invariant-loop-apart : goal.invariant-loop-apart
invariant-loop-apart g l =
    Going (ground_of l.code) (brought (g.T.Tables.applies l.tables) l.apart) (trees_of l.code) (length l.code.statements.nodes) l.at
    (all_in (brought (g.T.Tables.applies l.tables) l.apart) (incoming_at (trees_of l.code) l.fn.place) (moment l.fn.frame l.fn.store l.unparsed l.fn.run))
    (moment l.frame l.store l.unparsed l.run)

abbrev pub decreases-loop-apart : goal.decreases-loop-apart
decreases-loop-apart g l = l.at
