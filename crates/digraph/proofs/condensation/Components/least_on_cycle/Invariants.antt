use Rattle.std.proofs.Common.{ℕ, ◌<◌}
use Rattle.digraph.specs.Graphs.{OnCycle}
use Rattle.digraph.proofs.condensation.Components.least_on_cycle.Given as goal

abbrev pub invariant-loop-node : goal.invariant-loop-node
invariant-loop-node l = (a : ℕ) → a < l.node → OnCycle l.graph a → ⊥
