use Rattle.std.proofs.Common.{◌≡◌, ◌+◌, ◌≤◌, min, drop, sum_by}
use Rattle.p414_syntax.specs.Controls.{own_count}
use Rattle.p414_control_check.proofs.counts.statements_count.Given as goal

abbrev pub invariant-loop-statement : goal.invariant-loop-statement
invariant-loop-statement l =
    (min 65537 (l.total + sum_by own_count (drop l.statement-index l.statements)) ≡ min 65537 (sum_by own_count l.statements))
    × (l.total ≤ 65537)
