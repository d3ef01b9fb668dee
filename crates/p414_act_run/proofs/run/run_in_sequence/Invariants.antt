use Rattle.std.proofs.Common.{◌≡◌, drop}
use Rattle.p414_ready_actions.specs.Running.{rows_in_sequence}
use Rattle.p414_act_run.specs.Sums.{sums_in}
use Rattle.p414_act_run.specs.Moments.{moment}
use Rattle.p414_act_run.proofs.run.run_in_sequence.Given as goal

abbrev pub invariant-loop-row : goal.invariant-loop-row
invariant-loop-row l = record {
  layout : l.state.layout ≡ l.fn.state.layout;
  shapes : l.store.shapes ≡ l.fn.store.shapes;
  same : rows_in_sequence (sums_in l.calculations) l.arguments (drop l.row-index l.rows) (moment l.state l.store) ≡ rows_in_sequence (sums_in l.calculations) l.arguments l.rows (moment l.fn.state l.fn.store);
}
