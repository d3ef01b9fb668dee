use Rattle.std.proofs.Common.{◌≡◌, ℕ, ◌<◌, get_or}
use Rattle.digraph.specs.Graphs.{successors}
use Rattle.digraph.proofs.condensation.Components.is_on_cycle.Given as goal

abbrev pub invariant-loop-next : goal.invariant-loop-next
invariant-loop-next l = (k : ℕ) → k < l.next-index → get_or l.self.numbers (get_or (successors l.graph l.node) k 0) 0 ≡ l.number → ⊥
