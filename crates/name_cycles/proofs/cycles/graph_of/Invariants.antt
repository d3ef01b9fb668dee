use Rattle.std.proofs.Common.{◌≡◌, ◌++◌, drop, map}
use Rattle.name_cycles.specs.Named.{next_of}
use Rattle.name_cycles.proofs.cycles.graph_of.Given as goal

abbrev pub invariant-loop-node : goal.invariant-loop-node
invariant-loop-node l = l.graph ++ map (next_of l.names) (drop l.node-index l.nodes) ≡ map (next_of l.names) l.nodes
