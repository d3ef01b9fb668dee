use Rattle.std.proofs.Common.{◌≡◌, drop}
use Rattle.std.specs.List.{list_all}
use Rattle.p414_ready_actions.specs.internal.Empty.{is_empty_call}
use Rattle.p414_ready_actions.proofs.empties.is_empty_body.Given as goal

abbrev pub invariant-loop-call : goal.invariant-loop-call
invariant-loop-call l = list_all (is_empty_call l.names l.marks) (drop l.call-index l.calls) ≡ list_all (is_empty_call l.names l.marks) l.calls
