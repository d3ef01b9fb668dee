use Rattle.std.proofs.Common.{◌∙◌}
use Rattle.p414_act_run.proofs.Turns.{front_falls, rest_fit}
use Rattle.p414_act_run.proofs.run.let_fall.Goals as goal

pub loop-effect-preserved : goal.loop-effect-preserved
loop-effect-preserved c = record {
  layout = c.in_ok-fall.ensures.layout ∙ c.loop-effect.invariant.layout;
  shapes = c.in_ok-fall.ensures.shapes ∙ c.loop-effect.invariant.shapes;
  fits =
      rest_fit c.loop-effect.state c.fall.new.state c.loop-effect.store c.fall.new.store c.loop-effect.effects c.pop.new.self
      c.in-Some.effect _ c.in-Some.ensures c.in_ok-fall.ensures c.loop-effect.invariant.fits;
  same =
      front_falls c.loop-effect.state c.fall.new.state c.loop-effect.store c.fall.new.store c.loop-effect.effects c.pop.new.self
      c.in-Some.effect _ c.in-Some.ensures c.in_ok-fall.ensures c.loop-effect.invariant.same;
}
