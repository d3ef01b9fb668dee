use Rattle.std.proofs.Common.{◌≡◌, length}
use Rattle.p414_syntax.specs.Subtrees.{subexpressions}
use Rattle.p414_syntax.specs.Expressions.{is_truth}
use Rattle.p414_flat_check.proofs.expressions.is_truth.Given as goal

abbrev pub invariant-loop-inner : goal.invariant-loop-inner
invariant-loop-inner l = is_truth l.last ≡ is_truth l.expression

abbrev pub decreases-loop-inner : goal.decreases-loop-inner
decreases-loop-inner l = length (subexpressions l.last)
