use Rattle.std.proofs.Common.{◌≡◌, map, drop}
use Rattle.p414_call_check.specs.Shown.{shown_placed}
use Rattle.p414_parameter_widths.specs.internal.Noting.{noted_in_primitive}
use Rattle.p414_parameter_widths.proofs.row.note_primitive.Given as goal

abbrev pub invariant-loop-argument : goal.invariant-loop-argument
invariant-loop-argument l =
    noted_in_primitive l.indexed l.other l.row (map shown_placed (drop l.argument-index l.placed))
    ≡ noted_in_primitive l.indexed l.other l.fn.row (map shown_placed l.placed)
