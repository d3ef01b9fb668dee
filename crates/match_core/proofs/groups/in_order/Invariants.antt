use Rattle.std.proofs.Common.{◌≡◌}
use Rattle.match_core.specs.internal.Groups.{pairs_of}
use Rattle.match_core.proofs.groups.in_order.Given as goal

abbrev pub invariant-loop-values : goal.invariant-loop-values
invariant-loop-values l = pairs_of l.groups.items ≡ l.yielded
