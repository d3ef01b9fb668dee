use Rattle.std.proofs.Common.{◌≡◌, ◌+◌, ◌≤◌, min, drop, sum_by}
use Rattle.p414_list_check.specs.internal.Measures.{own_of}
use Rattle.p414_list_check.proofs.expanded.items_count.Given as goal

abbrev pub invariant-loop-item : goal.invariant-loop-item
invariant-loop-item l =
    (min 65537 (l.total + sum_by (own_of l.names l.measure) (drop l.item-index l.items)) ≡ min 65537 (sum_by (own_of l.names l.measure) l.items))
    × (l.total ≤ 65537)
