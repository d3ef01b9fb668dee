use Rattle.std.proofs.Common.{◌≡◌, drop}
use Rattle.p414_ready_conditions.specs.internal.Widths.{widest}
use Rattle.p414_ready_conditions.proofs.widths.widest.Given as goal

abbrev pub invariant-loop-expression : goal.invariant-loop-expression
invariant-loop-expression l = widest l.slots l.width (drop l.expression-index l.expressions) ≡ widest l.slots l.first l.expressions
