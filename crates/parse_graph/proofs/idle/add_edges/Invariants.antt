use Rattle.std.proofs.Common.{◌≡◌, filter, take}
use Rattle.parse_graph.specs.internal.IdleEdges.{extracts_none, with_edges}
use Rattle.parse_graph.proofs.idle.add_edges.Given as goal

abbrev pub invariant-loop-state : goal.invariant-loop-state
invariant-loop-state l = l.graph ≡ with_edges l.fn.graph (filter (extracts_none l.states) (take l.state-index l.next))
