use Rattle.std.proofs.Common.{◌≡◌, ◌+◌, ◌≤◌, min, drop, sum_by}
use Rattle.p414_action_check.specs.internal.Counted.{list_length}
use Rattle.p414_action_check.proofs.hashes.names_length.Given as goal

abbrev pub invariant-loop-name : goal.invariant-loop-name
invariant-loop-name l =
    (min 65537 (l.total + sum_by (list_length l.names l.lengths) (drop l.name-index l.inputs)) ≡ min 65537 (sum_by (list_length l.names l.lengths) l.inputs))
    × (l.total ≤ 65537)
