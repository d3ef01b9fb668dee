use Rattle.least_order.specs.internal.Quotients.{AreMarksBelow}
use Rattle.least_order.proofs.quotient.marks.Given as goal

abbrev pub invariant-loop-node : goal.invariant-loop-node
invariant-loop-node l = AreMarksBelow l.components l.is_listed l.node l.marks.items
