use Rattle.std.proofs.Common.{◌≡◌, drop}
use Rattle.std.specs.List.{list_any}
use Rattle.p414_syntax.specs.Nesting.{is_too_deep}
use Rattle.p414_flat_check.proofs.depths.some_too_deep.Given as goal

abbrev pub invariant-loop-expression : goal.invariant-loop-expression
invariant-loop-expression l = list_any is_too_deep (drop l.expression-index l.expressions) ≡ list_any is_too_deep l.expressions
