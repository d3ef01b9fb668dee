use Rattle.std.proofs.Common.{◌≡◌, drop}
use Rattle.std.specs.List.{list_any}
use Rattle.p414_call_check.specs.internal.Placing.{is_wrong_action}
use Rattle.p414_call_check.proofs.wrong_calls.some_wrong_action.Given as goal

abbrev pub invariant-loop-action : goal.invariant-loop-action
invariant-loop-action l = list_any (is_wrong_action l.names) (drop l.action-index l.calls) ≡ list_any (is_wrong_action l.names) l.calls
