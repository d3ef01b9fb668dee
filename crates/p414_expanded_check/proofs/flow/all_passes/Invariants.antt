use Rattle.std.proofs.Common.{◌≡◌, ◌++◌, drop, flat_map}
use Rattle.p414_expanded_check.specs.internal.Flow.{passes_of, all_passes}
use Rattle.p414_expanded_check.proofs.flow.all_passes.Given as goal

abbrev pub invariant-loop-action : goal.invariant-loop-action
invariant-loop-action l =
    l.found.items ++ flat_map (passes_of l.names l.starts l.calls) (drop l.action-index l.order) ≡ all_passes l.names l.starts l.calls l.order
