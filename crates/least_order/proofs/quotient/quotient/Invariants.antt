use Rattle.std.proofs.Common.{◌≡◌, [], length, replicate}
use Rattle.least_order.specs.internal.Additions.{AddsEdges}
use Rattle.least_order.proofs.Parting.{CrossesFrom}
use Rattle.least_order.proofs.quotient.quotient.Given as goal

abbrev pub invariant-loop-node : goal.invariant-loop-node
invariant-loop-node l = record {
  each : length l.edges ≡ l.components.count;
  edges : AddsEdges (replicate l.components.count []) l.edges (CrossesFrom l.graph l.components.numbers l.node);
}
