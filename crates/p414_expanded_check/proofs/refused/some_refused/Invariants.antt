use Rattle.std.proofs.Common.{◌≡◌, drop}
use Rattle.p414_expanded_check.specs.internal.Flow.{some_refused}
use Rattle.p414_expanded_check.proofs.refused.some_refused.Given as goal

abbrev pub invariant-loop-action : goal.invariant-loop-action
invariant-loop-action l =
    some_refused l.names l.place l.flags l.starts (drop l.action-index l.calls) ≡ some_refused l.names l.place l.flags l.starts l.calls
