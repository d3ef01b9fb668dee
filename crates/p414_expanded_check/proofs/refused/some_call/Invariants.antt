use Rattle.std.proofs.Common.{◌≡◌, drop}
use Rattle.std.specs.List.{list_any}
use Rattle.p414_expanded_check.specs.internal.Flow.{refused_in}
use Rattle.p414_expanded_check.proofs.refused.some_call.Given as goal

abbrev pub invariant-loop-call : goal.invariant-loop-call
invariant-loop-call l =
    list_any (refused_in l.names l.place l.flags l.starts) (drop l.call-index l.calls) ≡ list_any (refused_in l.names l.place l.flags l.starts) l.calls
