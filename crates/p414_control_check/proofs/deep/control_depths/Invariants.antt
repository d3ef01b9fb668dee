use Rattle.std.proofs.Common.{◌≡◌, ℕ, length, take}
use Rattle.digraph.specs.Graphs.{Among}
use Rattle.p414_syntax.specs.ControlExpansion.{controls}
use Rattle.p414_control_check.specs.internal.Depths.{IsDeep}
use Rattle.p414_control_check.proofs.deep.control_depths.Given as goal

abbrev pub invariant-loop-node : goal.invariant-loop-node
invariant-loop-node l = record {
  each : length l.depths.items ≡ length (controls l.controls);
  deep : (b : ℕ) → Among b (take l.node-index l.components.order) → IsDeep l.controls l.depths.items b;
}
