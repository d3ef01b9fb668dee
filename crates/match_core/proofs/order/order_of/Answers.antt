use Rattle.std.proofs.Common.{arith}
use Rattle.std.proofs.lemmas.List.Sorted.{IsNonDecreasingBy-from_sort}
use Rattle.match_core.proofs.Ordered.{order_is}
use Rattle.match_core.proofs.order.order_of.Goals as goal

pub returns : goal.returns
returns c =
    order_is _ c.loop-i.i c.loop-i.order.items c.sort_unstable.new.self.items (omega arith) c.loop-i.invariant c.sort_unstable.ensures.permutation
    (IsNonDecreasingBy-from_sort (λ x. x) _ c.sort_unstable.ensures.sorted)
