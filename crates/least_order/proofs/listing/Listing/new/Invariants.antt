use Rattle.std.proofs.Common.{◌≡◌, ℕ, ◌<◌, [], get_or, length, take}
use Rattle.least_order.specs.internal.Counts.{owing}
use Rattle.least_order.proofs.listing.Listing.new.Given as goal

abbrev pub invariant-loop-node : goal.invariant-loop-node
invariant-loop-node l = record {
  each : length l.owed.items ≡ length l.edges;
  counted : (b : ℕ) → b < length l.edges → get_or l.owed.items b 0 ≡ owing (take l.node l.edges) [] b;
}
