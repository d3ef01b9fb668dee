use Rattle.std.proofs.Common.{refl, arith}
use Rattle.v1_ready_nodes.proofs.Growing.{grows_further}
use Rattle.v1_ready_operands.proofs.Turning.{found_at, join_turn}
use Rattle.v1_ready_operands.proofs.sources.join_all.Goals as goal

pub loop-left-preserved : goal.loop-left-preserved
loop-left-preserved c = record {
  sources =
      join_turn c.args.nodes.now c.loop-left.nodes c.args.founds.now c.loop-left.left _ _ _ _ c.loop-left.invariant.grows
      (found_at c.args.nodes.now c.args.founds.now _ _ c.requires.found (omega (arith, c.loop-left.invariant.few))) (omega arith) c.loop-left.invariant.few refl c.loop-left.invariant.sources c.in_ok-join_one.ensures.sources;
  within = c.in_ok-join_one.ensures.within;
  grows = grows_further c.args.nodes.now c.loop-left.nodes c.join_one.new.nodes c.loop-left.invariant.grows c.in_ok-join_one.ensures.grows;
  few = omega (arith, c.loop-left.invariant.few);
}
