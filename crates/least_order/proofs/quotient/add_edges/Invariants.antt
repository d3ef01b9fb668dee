use Rattle.std.proofs.Common.{◌≡◌, length, take}
use Rattle.least_order.specs.internal.Additions.{AddsEdges}
use Rattle.least_order.specs.internal.Quotients.{LeavesTo}
use Rattle.least_order.proofs.quotient.add_edges.Given as goal

abbrev pub invariant-loop-target : goal.invariant-loop-target
invariant-loop-target l = record {
  each : length l.edges ≡ length l.fn.edges;
  edges : AddsEdges l.fn.edges l.edges (LeavesTo l.components.numbers l.from (take l.target-index l.targets));
}
