use Rattle.std.proofs.Common.{◌≡◌, drop}
use Rattle.std.specs.List.{list_any}
use Rattle.p414_syntax.specs.Expressions.{has_wrong_operand}
use Rattle.p414_flat_check.proofs.expressions.some_wrong_operand.Given as goal

abbrev pub invariant-loop-expression : goal.invariant-loop-expression
invariant-loop-expression l = list_any has_wrong_operand (drop l.expression-index l.expressions) ≡ list_any has_wrong_operand l.expressions
