use Rattle.std.proofs.Common.{◌≡◌, ◌+◌}
use Rattle.p416_syntax.specs.Expressions.{argument_count}
use Rattle.p416_uses.proofs.tables.count_arguments.Given as goal

abbrev pub invariant-loop-before : goal.invariant-loop-before
invariant-loop-before l = l.count + argument_count l.left ≡ argument_count l.list

abbrev pub decreases-loop-before : goal.decreases-loop-before
decreases-loop-before l = argument_count l.left
