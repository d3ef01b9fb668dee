use Rattle.std.proofs.Common.{◌≡◌, length, take}
use Rattle.least_order.specs.internal.Additions.{AddsEdges}
use Rattle.least_order.specs.internal.Constraints.{LeadsOn}
use Rattle.least_order.proofs.constraints.add_edges.Given as goal

abbrev pub invariant-loop-target : goal.invariant-loop-target
invariant-loop-target l = record {
  each : length l.successors ≡ length l.fn.successors;
  edges : AddsEdges l.fn.successors l.successors (LeadsOn l.last l.count (take l.target-index l.targets));
}
