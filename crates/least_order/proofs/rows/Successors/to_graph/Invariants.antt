use Rattle.std.proofs.Common.{◌≡◌, take}
use Rattle.least_order.proofs.rows.Successors.to_graph.Given as goal

abbrev pub invariant-loop-row : goal.invariant-loop-row
invariant-loop-row l = l.graph ≡ take l.row-index l.self
