use Rattle.std.proofs.Common.{ℕ, []}
use Rattle.digraph.specs.internal.Reaching.{Spreading, reach_work}
use Rattle.digraph.proofs.graph.Digraph.reachable.Given as goal

abbrev pub invariant-loop-node : goal.invariant-loop-node
invariant-loop-node l = (x : ℕ) × Spreading l.self l.from x [] l.search

abbrev pub decreases-loop-node : goal.decreases-loop-node
decreases-loop-node l = reach_work l.search
