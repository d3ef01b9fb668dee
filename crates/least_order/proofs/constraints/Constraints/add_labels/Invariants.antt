use Rattle.std.proofs.Common.{◌≡◌, take}
use Rattle.least_order.specs.internal.Constraints.{AddsLabels, last_of}
use Rattle.least_order.proofs.constraints.Constraints.add_labels.Given as goal

abbrev pub invariant-loop-label : goal.invariant-loop-label
invariant-loop-label l = record {
  last : l.last ≡ last_of l.node (take l.label-index l.labels);
  added : AddsLabels l.node (take l.label-index l.labels) l.fn.self.is_found.items l.fn.self.successors l.self.is_found.items l.self.successors;
}
