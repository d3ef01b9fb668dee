use Rattle.std.proofs.Common.{◌≡◌, map, drop}
use Rattle.p414_call_check.specs.Shown.{shown_placed}
use Rattle.p414_parameter_widths.specs.internal.Noting.{noted_in_action}
use Rattle.p414_parameter_widths.proofs.row.note_action.Given as goal

abbrev pub invariant-loop-place : goal.invariant-loop-place
invariant-loop-place l =
    noted_in_action l.widths l.row l.place (map shown_placed (drop l.place l.placed))
    ≡ noted_in_action l.widths l.fn.row 0 (map shown_placed l.placed)
