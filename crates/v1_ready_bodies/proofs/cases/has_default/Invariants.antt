use Rattle.std.proofs.Common.{◌≡◌}
use Rattle.v1_ready_statements.specs.Statements.{has_default}
use Rattle.v1_ready_bodies.specs.internal.Steps.{steps_of}
use Rattle.v1_ready_bodies.proofs.cases.has_default.Given as goal

abbrev pub invariant-loop-before : goal.invariant-loop-before
invariant-loop-before l = has_default l.left ≡ has_default l.cases

abbrev pub decreases-loop-before : goal.decreases-loop-before
decreases-loop-before l = steps_of l.left
