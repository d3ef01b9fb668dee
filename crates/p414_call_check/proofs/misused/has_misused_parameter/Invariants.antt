use Rattle.std.proofs.Common.{◌≡◌, map, drop}
use Rattle.std.specs.List.{list_any}
use Rattle.p414_syntax.specs.Parameters.{is_misused_parameter}
use Rattle.p414_call_check.specs.Shown.{shown_placed}
use Rattle.p414_call_check.proofs.misused.has_misused_parameter.Given as goal

abbrev pub invariant-loop-argument : goal.invariant-loop-argument
invariant-loop-argument l = list_any is_misused_parameter (map shown_placed (drop l.argument-index l.placed)) ≡ list_any is_misused_parameter (map shown_placed l.placed)
