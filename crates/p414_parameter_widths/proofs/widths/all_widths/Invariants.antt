use Rattle.std.proofs.Common.{◌≡◌, ℕ, length, take}
use Rattle.digraph.specs.Graphs.{Among}
use Rattle.p414_syntax.specs.Arguments.{actions}
use Rattle.p414_parameter_widths.proofs.Turning.{Known}
use Rattle.p414_parameter_widths.proofs.widths.all_widths.Given as goal

abbrev pub invariant-loop-action : goal.invariant-loop-action
invariant-loop-action l = record {
  each : length l.rows.items ≡ length (actions l.names);
  known : (b : ℕ) → Among b (take l.action-index l.components.order) → Known l.names l.rows.items (length (take l.action-index l.components.order)) b;
}
