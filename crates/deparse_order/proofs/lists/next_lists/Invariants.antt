use Rattle.std.proofs.Common.{◌≡◌, take}
use Rattle.deparse_order.specs.Orders.{next_lists}
use Rattle.deparse_order.proofs.lists.next_lists.Given as goal

abbrev pub invariant-loop-state : goal.invariant-loop-state
invariant-loop-state l = l.graph ≡ next_lists (take l.state-index l.states)
