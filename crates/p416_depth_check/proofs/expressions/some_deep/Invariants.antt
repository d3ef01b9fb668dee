use Rattle.std.proofs.Common.{◌≡◌, drop}
use Rattle.std.specs.List.{list_any}
use Rattle.p416_depth_check.specs.internal.Deep.{is_deep}
use Rattle.p416_depth_check.proofs.expressions.some_deep.Given as goal

abbrev pub invariant-loop-expression : goal.invariant-loop-expression
invariant-loop-expression l = list_any is_deep (drop l.expression-index l.expressions) ≡ list_any is_deep l.expressions
