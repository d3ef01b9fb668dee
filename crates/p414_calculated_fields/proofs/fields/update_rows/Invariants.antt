use Rattle.std.proofs.Common.{◌≡◌, drop}
use Rattle.p414_act_run.specs.Sums.{sums_in}
use Rattle.p414_calculated_fields.specs.Running.{rows_updated}
use Rattle.p414_calculated_fields.proofs.fields.update_rows.Given as goal

abbrev pub invariant-loop-row : goal.invariant-loop-row
invariant-loop-row l = record {
  layout : l.state.layout ≡ l.fn.state.layout;
  same : rows_updated l.fn.state.layout (sums_in l.calculations) l.state.state (drop l.row-index l.rows) ≡ rows_updated l.fn.state.layout (sums_in l.calculations) l.fn.state.state l.rows;
}
