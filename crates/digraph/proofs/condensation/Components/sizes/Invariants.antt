use Rattle.std.proofs.Common.{◌≡◌, ℕ, length, take}
use Rattle.digraph.specs.Graphs.{Among}
use Rattle.digraph.proofs.Sizing.{IsSized}
use Rattle.digraph.proofs.condensation.Components.sizes.Given as goal

abbrev pub invariant-loop-node : goal.invariant-loop-node
invariant-loop-node l = record {
  each : length l.sizes.items ≡ length l.graph;
  sized : (b : ℕ) → Among b (take l.node-index l.self.order) → IsSized l.graph l.own l.limit l.sizes.items b;
}
