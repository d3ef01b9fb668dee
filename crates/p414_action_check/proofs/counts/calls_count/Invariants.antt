use Rattle.std.proofs.Common.{◌≡◌, ◌+◌, ◌≤◌, min, drop, sum_by}
use Rattle.p414_action_check.specs.internal.Counted.{own_count}
use Rattle.p414_action_check.proofs.counts.calls_count.Given as goal

abbrev pub invariant-loop-call : goal.invariant-loop-call
invariant-loop-call l =
    (min 65537 (l.total + sum_by (own_count l.names l.inputs) (drop l.call-index l.calls)) ≡ min 65537 (sum_by (own_count l.names l.inputs) l.calls))
    × (l.total ≤ 65537)
