use Rattle.std.proofs.Common.{◌≡◌, ◌++◌}
use Rattle.p414_ready_conditions.specs.Rows.{truth_rows}
use Rattle.p414_ready_conditions.specs.internal.Work.{all_rows, weight_of}
use Rattle.p414_ready_conditions.proofs.making.rows_of.Given as goal

abbrev pub invariant-loop-work : goal.invariant-loop-work
invariant-loop-work l = l.made ++ all_rows l.slots l.left ≡ truth_rows l.slots l.condition

abbrev pub decreases-loop-work : goal.decreases-loop-work
decreases-loop-work l = weight_of l.left
