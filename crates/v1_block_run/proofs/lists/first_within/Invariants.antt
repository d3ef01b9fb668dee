use Rattle.v1_block_run.specs.Steps.{Opens}
use Rattle.v1_block_run.proofs.lists.first_within.Given as goal

abbrev pub invariant-parts : goal.invariant-parts
invariant-parts l = Opens l.block l.level l.ran l.fn.place l.fn.tasks l.at l.tasks

abbrev pub decreases-parts : goal.decreases-parts
decreases-parts l = l.at
