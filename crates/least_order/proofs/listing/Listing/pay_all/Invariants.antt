use Rattle.std.proofs.Common.{◌≡◌, take}
use Rattle.least_order.specs.internal.Listing.{paid_all}
use Rattle.least_order.proofs.listing.Listing.pay_all.Given as goal

abbrev pub invariant-loop-node : goal.invariant-loop-node
invariant-loop-node l = l.self ≡ paid_all l.marks l.fn.self (take l.node-index l.targets)
