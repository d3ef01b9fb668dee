use Rattle.std.proofs.Common.{sym, ◌∙◌}
use Rattle.v1_passes.proofs.Ends.{finished_dropped, finished_left}
use Rattle.v1_passes.proofs.passes.finish.Goals as goal

pub returns-clause-ends : goal.returns-clause-ends
returns-clause-ends g c =
    finished_left (g.B.Blocks.setting c.args.blocks.now) c.args.packets.now (g.B.Blocks.setting c.put_together.new.blocks).syntax c.args.frame.now c.put_together.new.frame (g.B.Blocks.store c.args.blocks.now) (g.B.Blocks.store c.put_together.new.blocks) c.args.unparsed.now c.args.emitted c.in_ok-octets.octets c.args.work.now c.put_together.new.work c.in_ok-again.again c.leave.result
    c.requires.program (sym c.is_dropped.ensures ∙ c.if-is_dropped.false) c.in_ok-again.ensures c.in_ok-octets.ensures.together c.leave.ensures

pub returns-then-is_dropped-clause-ends : goal.returns-then-is_dropped-clause-ends
returns-then-is_dropped-clause-ends g c =
    finished_dropped (g.B.Blocks.setting c.args.blocks.now) c.args.packets.now c.args.frame.now (g.B.Blocks.store c.args.blocks.now) c.args.unparsed.now c.args.emitted c.args.work.now c.requires.program (sym c.is_dropped.ensures ∙ c.if-is_dropped.true)
