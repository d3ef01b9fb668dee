use Rattle.std.proofs.Common.{◌≡◌, ◌++◌, drop, map}
use Rattle.p414_syntax.specs.ControlExpansion.{controls, calls_in}
use Rattle.p414_control_check.specs.internal.Expanded.{control_graph}
use Rattle.p414_control_check.proofs.control_graph.control_graph.Given as goal

abbrev pub invariant-loop-decl : goal.invariant-loop-decl
invariant-loop-decl l = l.graph ++ map (calls_in l.controls) (controls (drop l.decl-index l.controls)) ≡ control_graph l.controls
