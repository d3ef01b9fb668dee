use Rattle.std.proofs.Common.{arith}
use Rattle.v1_ready_program.specs.Seen.{seen_seats}
use Rattle.v1_ready_locals.proofs.Leaving.{parameters_turn}
use Rattle.v1_ready_locals.proofs.actions.seat_parameters.Goals as goal

pub loop-left-preserved : goal.loop-left-preserved
loop-left-preserved g c = record {
  seats =
      parameters_turn (g.S.Singles.block c.args.singles.now) c.args.first c.args.parameters.now c.loop-left.left c.in_ok-number.number c.index-parameters-left.result c.index-parameters-left.result (seen_seats c.args.seats.now) (seen_seats c.loop-left.seats) _ (omega arith) c.loop-left.invariant.few c.index-parameters-left.is
      c.in_ok-number.ensures c.loop-left.invariant.seats c.in_ok-seat_parameter.ensures;
  few = omega (arith, c.loop-left.invariant.few);
}
