use Rattle.std.proofs.Common.{◌≡◌}
use Rattle.std.specs.List.{list_any}
use Rattle.p416_depth_check.specs.internal.Walks.{exp_is_deep}
use Rattle.p416_depth_check.specs.internal.Deep.{is_deep}
use Rattle.p416_depth_check.proofs.Counts.{exps_left}
use Rattle.p416_depth_check.proofs.expressions.is_deep.Given as goal

abbrev pub invariant-loop-next : goal.invariant-loop-next
invariant-loop-next l = list_any exp_is_deep l.left ≡ is_deep l.expression

abbrev pub decreases-loop-next : goal.decreases-loop-next
decreases-loop-next l = exps_left l.left
