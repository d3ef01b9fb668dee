use Rattle.std.proofs.Common.{◌≡◌, take}
use Rattle.deparse_order.specs.Orders.{extract_lists}
use Rattle.deparse_order.proofs.lists.extract_lists.Given as goal

abbrev pub invariant-loop-state : goal.invariant-loop-state
invariant-loop-state l = l.lists.items ≡ extract_lists (take l.state-index l.states)
