use Rattle.std.proofs.Common.{◌≡◌, ◌+◌, ◌≤◌, min, drop}
use Rattle.std.specs.Prelude.{count_by}
use Rattle.p414_syntax.specs.Controls.{is_operand}
use Rattle.p414_control_check.proofs.counts.operands.Given as goal

abbrev pub invariant-loop-expression : goal.invariant-loop-expression
invariant-loop-expression l =
    (min 65537 (l.total + count_by is_operand (drop l.expression-index l.expressions)) ≡ min 65537 (1 + count_by is_operand l.expressions))
    × (l.total ≤ 65537)
