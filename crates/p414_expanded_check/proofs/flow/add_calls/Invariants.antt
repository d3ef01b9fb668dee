use Rattle.std.proofs.Common.{◌≡◌, ◌++◌, drop, flat_map}
use Rattle.p414_expanded_check.specs.internal.Flow.{passes_in}
use Rattle.p414_expanded_check.proofs.flow.add_calls.Given as goal

abbrev pub invariant-loop-call : goal.invariant-loop-call
invariant-loop-call l =
    l.found.items ++ flat_map (passes_in l.names l.starts l.here) (drop l.call-index l.calls) ≡ l.fn.found.items ++ flat_map (passes_in l.names l.starts l.here) l.calls
