use Rattle.std.proofs.Common.{refl, ◌∙◌, arith}
use Rattle.p4x_bits.specs.BitLists.{octet_bits}
use Rattle.v1_statement_run.proofs.Packing.{fill_begins, fill_goes}
use Rattle.v1_statement_run.proofs.Windows.{holds_none}
use Rattle.v1_statement_run.proofs.packets.fill.Goals as goal

pub loop-i-init : goal.loop-i-init
loop-i-init c = record {
  filling = fill_begins c.args.octets.now c.args.count c.args.slot c.args.frame.now c.requires.bits;
  few = omega arith;
  holds = holds_none _ _ refl;
}

pub loop-i-preserved : goal.loop-i-preserved
loop-i-preserved c = record {
  filling =
      fill_goes (octet_bits c.args.octets.now) c.args.count c.args.slot c.loop-i.i c.loop-i.at c.from-at.result c.read_ahead.result
      c.args.frame.now c.loop-i.frame c.set.new.self c.loop-i-test.true
      (c.from-at.ensures ∙ c.width-width.ensures.is) (omega (arith, c.from-at.ensures, c.width-width.ensures.fits))
      (rw c.from-at.ensures c.read_ahead.ensures.is) c.set.ensures c.loop-i.invariant.filling;
  few = c.read_ahead.ensures.few;
  holds = rw c.from-at.ensures c.read_ahead.ensures.holds;
}
