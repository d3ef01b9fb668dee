use Rattle.std.proofs.Common.{◌≡◌, map, drop}
use Rattle.std.specs.List.{list_any}
use Rattle.p414_call_check.specs.Shown.{shown_placed}
use Rattle.p414_call_check.specs.internal.Written.{target_is_read_only}
use Rattle.p414_call_check.proofs.targets.some_target_is_read_only.Given as goal

abbrev pub invariant-loop-argument : goal.invariant-loop-argument
invariant-loop-argument l = list_any target_is_read_only (map shown_placed (drop l.argument-index l.placed)) ≡ list_any target_is_read_only (map shown_placed l.placed)
