use Rattle.std.proofs.Common.{refl, arith}
use Rattle.name_numbers.specs.Names.{find_name}
use Rattle.v1_ready_nodes.proofs.Growing.{grows_further}
use Rattle.v1_ready_tests.proofs.Turning.{made_turn}
use Rattle.v1_ready_tests.proofs.tests.build.Goals as goal

pub loop-left-preserved : goal.loop-left-preserved
loop-left-preserved c = record {
  made =
      made_turn (find_name c.args.tables.now) c.args.plans.now c.args.views.now c.loop-left.left _ _ c.index-views-left.result c.index-views-left.result _ _ (omega arith) (omega (arith, c.requires.many, c.loop-left.invariant.few)) c.loop-left.invariant.few
      refl c.index-views-left.is c.loop-left.invariant.made c.in_ok-build_one.ensures.made;
  within = c.in_ok-build_one.ensures.within;
  grows = grows_further c.args.nodes.now c.loop-left.nodes c.build_one.new.nodes c.loop-left.invariant.grows c.in_ok-build_one.ensures.grows;
  few = omega (arith, c.loop-left.invariant.few);
}
