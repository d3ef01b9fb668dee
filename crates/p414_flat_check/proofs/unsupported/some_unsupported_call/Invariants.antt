use Rattle.std.proofs.Common.{◌≡◌, drop}
use Rattle.std.specs.List.{list_any}
use Rattle.p414_syntax.specs.Unsupported.{is_unsupported_call}
use Rattle.p414_flat_check.proofs.unsupported.some_unsupported_call.Given as goal

abbrev pub invariant-loop-call : goal.invariant-loop-call
invariant-loop-call l = list_any is_unsupported_call (drop l.call-index l.calls) ≡ list_any is_unsupported_call l.calls
