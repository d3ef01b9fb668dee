use Rattle.std.proofs.Common.{◌≡◌, drop}
use Rattle.std.specs.List.{list_any}
use Rattle.p414_syntax.specs.Calls.{is_wrong_call}
use Rattle.p414_call_check.proofs.wrong_calls.some_wrong_call.Given as goal

abbrev pub invariant-loop-call : goal.invariant-loop-call
invariant-loop-call l = list_any (is_wrong_call l.names) (drop l.call-index l.calls) ≡ list_any (is_wrong_call l.names) l.calls
