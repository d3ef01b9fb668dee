use Rattle.std.proofs.Common.{◌≡◌, drop}
use Rattle.p414_act_run.specs.Sums.{sums_in}
use Rattle.p414_calculated_fields.specs.Running.{rows_fail}
use Rattle.p414_calculated_fields.proofs.fields.rows_fail.Given as goal

abbrev pub invariant-loop-row : goal.invariant-loop-row
invariant-loop-row l = rows_fail (sums_in l.calculations) l.state.state (drop l.row-index l.rows) ≡ rows_fail (sums_in l.calculations) l.state.state l.rows
