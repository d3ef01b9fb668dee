use Rattle.std.proofs.Common.{◌≡◌, ◌++◌}
use Rattle.p416_syntax.specs.Expressions.{argument_count}
use Rattle.p416_syntax.specs.Uses.{arguments_of}
use Rattle.v1_ready_tests.proofs.views.arguments_in.Given as goal

abbrev pub invariant-loop-before : goal.invariant-loop-before
invariant-loop-before l = record {
  views : arguments_of l.rest ++ l.views ≡ arguments_of l.list;
}

abbrev pub decreases-loop-before : goal.decreases-loop-before
decreases-loop-before l = argument_count l.rest
