use Rattle.std.proofs.Common.{◌-◌, drop}
use Rattle.std.specs.Prelude.{flat_map}
use Rattle.p414_ready_actions.specs.Running.{row_effects}
use Rattle.p414_act_run.specs.Sums.{sums_in}
use Rattle.p414_act_run.specs.Moments.{AreHeld, moment}
use Rattle.p414_act_run.proofs.run.read_rows.Given as goal

abbrev pub invariant-loop-done : goal.invariant-loop-done
invariant-loop-done l = AreHeld l.state.layout l.store.shapes l.effects (flat_map (row_effects (sums_in l.calculations) l.arguments (moment l.state l.store)) (drop (l.count - l.done) l.rows))
