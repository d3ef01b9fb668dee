use Rattle.std.proofs.Common.{◌≡◌, ℕ, ◌+◌, ◌<◌, get_or, length, take}
use Rattle.least_order.specs.internal.Counts.{occurs}
use Rattle.least_order.proofs.listing.count_all.Given as goal

abbrev pub invariant-loop-node : goal.invariant-loop-node
invariant-loop-node l = record {
  each : length l.owed.items ≡ length l.fn.owed.items;
  counted : (b : ℕ) → b < length l.fn.owed.items → get_or l.owed.items b 0 ≡ get_or l.fn.owed.items b 0 + occurs b (take l.node-index l.targets);
}
