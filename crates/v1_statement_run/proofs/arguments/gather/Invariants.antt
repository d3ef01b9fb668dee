use Rattle.std.proofs.Common.{length}
use Rattle.v1_ready_blocks.specs.Arguments.{arguments}
use Rattle.v1_ready_blocks.specs.Nodes.{arguments_at}
use Rattle.v1_statement_run.specs.Seen.{given_of, moment}
use Rattle.v1_statement_run.specs.Steps.{ground_of, trees_of}
use Rattle.v1_statement_run.proofs.Passing.{Gathering}
use Rattle.v1_statement_run.proofs.arguments.gather.Given as goal

abbrev pub invariant-loop-place : goal.invariant-loop-place
invariant-loop-place g l =
    Gathering (ground_of l.code) (g.T.Tables.applies l.tables) (trees_of l.code) (length l.code.statements.nodes) l.at
    (arguments (g.T.Tables.applies l.tables) (arguments_at (trees_of l.code) l.fn.place) (moment l.fn.frame l.fn.store l.unparsed l.fn.run))
    (given_of l.run) (moment l.frame l.store l.unparsed l.run)

abbrev pub decreases-loop-place : goal.decreases-loop-place
decreases-loop-place g l = l.at
