use Rattle.std.proofs.Common.{◌≡◌, ◌++◌, drop, map}
use Rattle.p414_syntax.specs.ControlExpansion.{controls}
use Rattle.p414_pipeline_check.specs.internal.Applied.{control_row, control_rows}
use Rattle.lower_copies.proofs.applied_graph.control_rows.Given as goal

abbrev pub invariant-loop-decl : goal.invariant-loop-decl
invariant-loop-decl l = l.graph ++ map (control_row l.controls) (controls (drop l.decl-index l.controls)) ≡ control_rows l.controls
