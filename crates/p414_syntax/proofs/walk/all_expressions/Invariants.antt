use Rattle.std.proofs.Common.{◌≡◌, ◌++◌, length}
use Rattle.std.specs.List.{flat_map}
use Rattle.p414_syntax.specs.Subtrees.{subexpressions}
use Rattle.p414_syntax.proofs.walk.all_expressions.Given as goal

abbrev pub invariant-loop-next : goal.invariant-loop-next
invariant-loop-next l = l.found.items ++ flat_map subexpressions l.left ≡ subexpressions l.expression

abbrev pub decreases-loop-next : goal.decreases-loop-next
decreases-loop-next l = length (flat_map subexpressions l.left)
