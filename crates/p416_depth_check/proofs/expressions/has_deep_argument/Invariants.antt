use Rattle.std.proofs.Common.{◌≡◌}
use Rattle.p416_syntax.specs.Expressions.{argument_count}
use Rattle.p416_depth_check.specs.internal.Deep.{has_deep_argument}
use Rattle.p416_depth_check.proofs.expressions.has_deep_argument.Given as goal

abbrev pub invariant-loop-before : goal.invariant-loop-before
invariant-loop-before l = has_deep_argument l.left ≡ has_deep_argument l.given

abbrev pub decreases-loop-before : goal.decreases-loop-before
decreases-loop-before l = argument_count l.left
