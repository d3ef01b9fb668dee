use Rattle.std.proofs.Common.{◌≡◌, ◌≤◌, length, drop}
use Rattle.v1_ready_nodes.specs.Held.{Grows}
use Rattle.v1_ready_operands.specs.internal.Coded.{seen_founds, seen_sources, AreSourcesIn}
use Rattle.v1_ready_operands.specs.internal.SourcePasses.{joined}
use Rattle.v1_ready_operands.proofs.sources.join_all.Given as goal

abbrev pub invariant-loop-left : goal.invariant-loop-left
invariant-loop-left l = record {
  sources : seen_sources l.nodes l.sources ≡ joined (seen_founds l.fn.nodes (drop l.left l.founds));
  within : AreSourcesIn l.nodes l.sources;
  grows : Grows l.fn.nodes l.nodes;
  few : l.left ≤ length l.founds;
}

abbrev pub decreases-loop-left : goal.decreases-loop-left
decreases-loop-left l = l.left
