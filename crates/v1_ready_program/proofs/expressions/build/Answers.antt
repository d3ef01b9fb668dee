use Rattle.std.proofs.Common.{refl, ◌∙◌, arith}
use Rattle.v1_core.specs.Kept.{trees}
use Rattle.v1_ready_program.proofs.Valuing.{built_turn, keeps_more}
use Rattle.v1_ready_program.proofs.expressions.build.Goals as goal

pub loop-left-preserved : goal.loop-left-preserved
loop-left-preserved c = record {
  values =
      built_turn c.args.plans.now c.args.views.now c.loop-left.left _ _ c.index-views-left.result c.index-views-left.result _ _ (omega arith) (omega (arith, c.requires, c.loop-left.invariant.few)) c.loop-left.invariant.few
      refl c.index-views-left.is c.loop-left.invariant.values c.in_ok-build_one.ensures.values;
  within = c.in_ok-build_one.ensures.within;
  keeps = keeps_more (trees c.args.expressions.now) (trees c.loop-left.expressions) (trees c.build_one.new.expressions) c.loop-left.invariant.keeps c.in_ok-build_one.ensures.keeps;
  layout = c.build_one.ensures.layout ∙ c.loop-left.invariant.layout;
  few = omega (arith, c.loop-left.invariant.few);
}
