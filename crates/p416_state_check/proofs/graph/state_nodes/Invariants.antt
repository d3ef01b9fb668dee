use Rattle.std.proofs.Common.{◌≡◌, ◌++◌, drop, map}
use Rattle.p416_state_check.specs.internal.Outside.{state_node}
use Rattle.p416_state_check.proofs.graph.state_nodes.Given as goal

abbrev pub invariant-loop-state : goal.invariant-loop-state
invariant-loop-state l = l.nodes.items ++ map state_node (drop l.state-index l.states) ≡ map state_node l.states
