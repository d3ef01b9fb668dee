use Rattle.std.proofs.Common.{◌≡◌}
use Rattle.match_core.proofs.Ordered.{places}
use Rattle.match_core.proofs.order.order_of.Given as goal

abbrev pub invariant-loop-i : goal.invariant-loop-i
invariant-loop-i l = l.order.items ≡ places (record { specs = l.specs; entries = l.entries }) l.i
