use Rattle.least_order.specs.internal.Constraints.{AreConstraintsBelow}
use Rattle.least_order.proofs.constraints.Constraints.of.Given as goal

abbrev pub invariant-loop-node : goal.invariant-loop-node
invariant-loop-node l = AreConstraintsBelow l.edges l.labels l.count l.reached l.node l.constraints.is_found.items l.constraints.successors
