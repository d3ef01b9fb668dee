use Rattle.std.proofs.Common.{◌≤◌, ◌∷◌, drop, length}
use Rattle.v1_statement_run.specs.Seen.{moment}
use Rattle.v1_block_run.specs.Tasks.{finish, load}
use Rattle.v1_block_run.proofs.Looping.{Running}
use Rattle.v1_block_run.proofs.run.run_tasks.Given as goal

abbrev pub invariant-tasks : goal.invariant-tasks
invariant-tasks g l = record {
  running : Running (g.T.Tables.applies l.tables) l.block (l.next ∷ l.tasks)
      (finish (g.T.Tables.applies l.tables) l.block (l.fn.first ∷ l.fn.tasks) (moment l.fn.frame l.fn.store (drop l.fn.begun l.octets) l.fn.run))
      (moment l.frame l.store (drop l.parsed l.octets) l.run);
  within : l.parsed ≤ length l.octets;
}

abbrev pub decreases-tasks : goal.decreases-tasks
decreases-tasks g l = load l.block (l.next ∷ l.tasks)
