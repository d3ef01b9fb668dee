use Rattle.std.proofs.Common.{refl}
use Rattle.v1_ready_whole.proofs.Standing.{counted_on}
use Rattle.v1_ready_whole.proofs.parser.own_variables.Goals as goal

pub loop-var-preserved : goal.loop-var-preserved
loop-var-preserved c =
    counted_on c.args.vars.now c.loop-var.var-index c.loop-var.number c.in_ok-number.number c.var-item.result c.loop-var-test.true c.var-item.is c.loop-var.found.items _ c.push.new.self.items _ c.in_ok-push.ensures.items refl c.in_ok-number.ensures c.loop-var.invariant
