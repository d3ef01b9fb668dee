use Rattle.std.proofs.Common.{◌≡◌}
use Rattle.least_order.specs.internal.Listing.{begun}
use Rattle.least_order.proofs.listing.Listing.begin.Given as goal

abbrev pub invariant-loop-node : goal.invariant-loop-node
invariant-loop-node l = l.self ≡ begun l.marks l.fn.self l.node
