use Rattle.p414_ready_actions.specs.internal.Empty.{AreEmpty}
use Rattle.p414_ready_actions.proofs.empties.empties.Given as goal

abbrev pub invariant-loop-action : goal.invariant-loop-action
invariant-loop-action l = AreEmpty l.names l.marks.items
