use Rattle.std.proofs.Common.{◌≡◌, ◌++◌, drop}
use Rattle.p414_field_lists.specs.Rows.{rows_bits}
use Rattle.p414_field_lists.specs.internal.Runs.{IsRun, run_bits}
use Rattle.p414_field_lists.proofs.bits.push_rows.Given as goal

abbrev pub invariant-loop-row : goal.invariant-loop-row
invariant-loop-row l = record {
  run : IsRun l.run;
  put : l.list ++ (run_bits l.run ++ rows_bits l.state.state (drop l.row-index l.rows)) ≡ l.fn.list ++ rows_bits l.state.state l.rows;
}
