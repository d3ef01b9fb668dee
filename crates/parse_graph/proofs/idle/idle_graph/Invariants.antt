use Rattle.std.proofs.Common.{◌≡◌, map, take}
use Rattle.parse_graph.specs.internal.IdleEdges.{idle_next}
use Rattle.parse_graph.proofs.idle.idle_graph.Given as goal

abbrev pub invariant-loop-state : goal.invariant-loop-state
invariant-loop-state l = l.graph ≡ map (idle_next l.states) (take l.state-index l.states)
