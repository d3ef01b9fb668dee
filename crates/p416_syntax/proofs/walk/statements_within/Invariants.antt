use Rattle.std.proofs.Common.{◌≡◌, ◌++◌, length}
use Rattle.std.specs.List.{flat_map}
use Rattle.p416_syntax.specs.Subtrees.{subtrees}
use Rattle.p416_syntax.proofs.walk.statements_within.Given as goal

abbrev pub invariant-loop-next : goal.invariant-loop-next
invariant-loop-next l = l.found.items ++ flat_map subtrees l.left ≡ subtrees l.statement

abbrev pub decreases-loop-next : goal.decreases-loop-next
decreases-loop-next l = length (flat_map subtrees l.left)
