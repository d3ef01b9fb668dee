use Rattle.std.proofs.Common.{◌++◌}
use Rattle.v1_statement_run.specs.Seen.{moment}
use Rattle.v1_statement_run.specs.Steps.{trees_of}
use Rattle.v1_statement_run.proofs.Passing.{Slotting}
use Rattle.v1_statement_run.proofs.arguments.gather_slots.Given as goal

abbrev pub invariant-loop-slot : goal.invariant-loop-slot
invariant-loop-slot g l =
    Slotting (g.T.Tables.applies l.tables) (trees_of l.code) l.fn.place l.at (moment l.frame l.store l.unparsed l.fn.run) l.fn.run l.run
    (l.run.list ++ l.buffer)

abbrev pub decreases-loop-slot : goal.decreases-loop-slot
decreases-loop-slot g l = l.at
