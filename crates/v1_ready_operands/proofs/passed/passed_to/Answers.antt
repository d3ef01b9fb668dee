use Rattle.std.proofs.Common.{refl}
use Rattle.v1_ready_operands.proofs.Chaining.{in_turn, out_turn}
use Rattle.v1_ready_operands.proofs.passed.passed_to.Goals as goal

pub loop-parameter-preserved : goal.loop-parameter-preserved
loop-parameter-preserved c = record {
  incoming = λ b s seats.
      in_turn b s seats c.args.parameters.now c.loop-parameter.parameter-index c.loop-parameter.number c.in_ok-number.number c.parameter-item.result c.in-Some.argument c.loop-parameter.arguments c.pop.new.self c.loop-parameter.passed c.push.new.self _
      c.loop-parameter-test.true c.parameter-item.is c.in-Some.ensures c.in_ok-push.ensures refl refl refl c.in_ok-number.ensures _ (c.loop-parameter.invariant.incoming b s seats);
  outgoing = λ b s seats.
      out_turn b s seats c.args.parameters.now c.loop-parameter.parameter-index c.loop-parameter.number c.in_ok-number.number c.parameter-item.result c.in-Some.argument c.loop-parameter.arguments c.pop.new.self c.loop-parameter.passed c.push.new.self _
      c.loop-parameter-test.true c.parameter-item.is c.in-Some.ensures c.in_ok-push.ensures refl refl refl c.in_ok-number.ensures _ (c.loop-parameter.invariant.outgoing b s seats);
}
