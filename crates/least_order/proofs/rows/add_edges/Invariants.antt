use Rattle.std.proofs.Common.{◌≡◌, fold, take}
use Rattle.digraph.specs.Graphs.{with_edge}
use Rattle.least_order.proofs.rows.add_edges.Given as goal

abbrev pub invariant-loop-target : goal.invariant-loop-target
invariant-loop-target l = l.graph ≡ fold with_edge l.fn.graph (take l.target-index l.targets)
