use Rattle.std.proofs.Common.{◌≡◌, ◌++◌, drop, map}
use Rattle.p414_action_check.specs.internal.Counted.{calls_count}
use Rattle.p414_action_check.proofs.counts.own_counts.Given as goal

abbrev pub invariant-loop-action : goal.invariant-loop-action
invariant-loop-action l = l.found.items ++ map (calls_count l.names l.inputs) (drop l.action-index l.actions) ≡ map (calls_count l.names l.inputs) l.actions
