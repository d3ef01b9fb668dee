use Rattle.std.proofs.Common.{◌≡◌, ◌++◌, map, drop}
use Rattle.name_cycles.specs.Named.{called_of}
use Rattle.name_cycles.proofs.cycles.names_of.Given as goal

abbrev pub invariant-loop-node : goal.invariant-loop-node
invariant-loop-node l = map (λ name. name.now) l.names.items ++ map called_of (drop l.node-index l.nodes) ≡ map called_of l.nodes
