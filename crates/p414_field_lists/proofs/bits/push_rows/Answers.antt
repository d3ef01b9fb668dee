use Rattle.std.proofs.Common.{◌++◌}
use Rattle.p414_field_lists.specs.declared.rows.ItemRow.TheVariants as row
use Rattle.p414_field_lists.specs.Rows.{rows_bits}
use Rattle.p414_field_lists.specs.internal.Runs.{run_bits}
use Rattle.p414_field_lists.proofs.Numbers.{next_rows}
use Rattle.p414_field_lists.proofs.bits.push_rows.Goals as goal

pub loop-row-preserved : goal.loop-row-preserved
loop-row-preserved c = record {
  run = c.in_ok-push_row.ensures.run;
  put = next_rows c.args.state.now.state c.args.rows.now c.loop-row.row-index row.Payload c.loop-row.list (run_bits c.loop-row.run) c.push_row.new.list (run_bits c.push_row.new.run) (c.args.list.now ++ rows_bits c.args.state.now.state c.args.rows.now)
      c.loop-row-test.true c.in_ok-push_row.ensures.put c.loop-row.invariant.put;
}
