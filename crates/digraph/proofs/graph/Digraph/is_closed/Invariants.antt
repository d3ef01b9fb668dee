use Rattle.std.proofs.Common.{ℕ, ◌<◌, length}
use Rattle.digraph.specs.Graphs.{IsEdge}
use Rattle.digraph.proofs.graph.Digraph.is_closed.Given as goal

abbrev pub invariant-loop-node : goal.invariant-loop-node
invariant-loop-node l = (a b : ℕ) → a < l.node → IsEdge l.self a b → b < length l.self
