use Rattle.std.proofs.Common.{◌∙◌, arith}
use Rattle.v1_statement_run.proofs.Packing.{total_goes}
use Rattle.v1_statement_run.proofs.packets.total_width.Goals as goal

pub loop-i-preserved : goal.loop-i-preserved
loop-i-preserved c =
    total_goes c.args.frame.now c.args.count c.args.slot c.loop-i.i c.loop-i.total c.from-total.result c.loop-i-test.true
    (c.from-total.ensures ∙ c.width.ensures.is) (omega (arith, c.from-total.ensures, c.width.ensures.fits)) c.loop-i.invariant
