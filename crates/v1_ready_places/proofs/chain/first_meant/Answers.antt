use Rattle.std.proofs.Common.{refl, arith}
use Rattle.p416_scopes.specs.Seen.{seen_scope}
use Rattle.v1_ready_program.specs.Seen.{seen_seats}
use Rattle.v1_ready_places.proofs.Chained.{meant_turn}
use Rattle.v1_ready_places.proofs.chain.first_meant.Goals as goal

pub loop-left-preserved : goal.loop-left-preserved
loop-left-preserved c = record {
  meant =
      meant_turn (seen_scope c.args.around.scope.now) (seen_seats c.args.around.seats.now) c.args.around.types.now c.args.kinds.now c.args.views.now c.loop-left.left _ _ c.index-views-left.result _ c.index-views-left.result _ _ c.requires.types
      (omega arith) (omega (arith, c.requires.many, c.loop-left.invariant.few)) c.loop-left.invariant.few refl c.index-views-left.is c.head.ensures c.requires.kinds c.loop-left.invariant.meant c.in_ok-meant.ensures;
  few = omega (arith, c.loop-left.invariant.few);
}
