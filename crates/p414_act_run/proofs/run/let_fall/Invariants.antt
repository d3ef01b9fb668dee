use Rattle.std.proofs.Common.{◌≡◌, length, map, All}
use Rattle.p414_sem.specs.Effects.{all_fallen}
use Rattle.p414_act_run.specs.Fits.{FitsEffect}
use Rattle.p414_act_run.specs.Moments.{moment, shown_effect}
use Rattle.p414_act_run.proofs.run.let_fall.Given as goal

abbrev pub invariant-loop-effect : goal.invariant-loop-effect
invariant-loop-effect l = record {
  layout : l.state.layout ≡ l.fn.state.layout;
  shapes : l.store.shapes ≡ l.fn.store.shapes;
  fits : All (FitsEffect l.state.layout l.store.shapes) l.effects;
  same : all_fallen (moment l.state l.store) (map (shown_effect l.state.layout) l.effects) ≡ all_fallen (moment l.fn.state l.fn.store) (map (shown_effect l.fn.state.layout) l.fn.effects);
}

abbrev pub decreases-loop-effect : goal.decreases-loop-effect
decreases-loop-effect l = length l.effects
