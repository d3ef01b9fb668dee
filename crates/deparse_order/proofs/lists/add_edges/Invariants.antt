use Rattle.std.proofs.Common.{◌≡◌, fold, take}
use Rattle.digraph.specs.Graphs.{with_edge}
use Rattle.deparse_order.proofs.lists.add_edges.Given as goal

abbrev pub invariant-loop-state : goal.invariant-loop-state
invariant-loop-state l = l.graph ≡ fold with_edge l.fn.graph (take l.state-index l.next)
