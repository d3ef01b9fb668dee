use Rattle.std.proofs.Common.{length, refl}
use Rattle.p414_ready_actions.specs.Running.{row_effects}
use Rattle.p414_act_run.specs.Sums.{sums_in}
use Rattle.p414_act_run.specs.Moments.{moment}
use Rattle.p414_act_run.proofs.Turns.{next_read}
use Rattle.p414_act_run.proofs.run.read_rows.Goals as goal

pub loop-done-preserved : goal.loop-done-preserved
loop-done-preserved c =
    next_read (row_effects (sums_in c.args.calculations.now) c.args.arguments.now (moment c.args.state.now c.args.store.now))
    c.args.state.now.layout c.args.store.now.shapes c.args.rows.now (length c.args.rows.now) c.loop-done.done _
    c.loop-done.effects c.read_row.new.effects refl c.loop-done-test.true c.loop-done.invariant c.in_ok-read_row.ensures
