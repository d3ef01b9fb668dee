use Rattle.std.proofs.Common.{◌≡◌, drop}
use Rattle.std.specs.List.{list_any}
use Rattle.p414_syntax.specs.Expressions.{is_negation}
use Rattle.p414_flat_check.proofs.expressions.some_negation.Given as goal

abbrev pub invariant-loop-expression : goal.invariant-loop-expression
invariant-loop-expression l = list_any is_negation (drop l.expression-index l.expressions) ≡ list_any is_negation l.expressions
