use Rattle.v1_packets.proofs.Begun.{standard_put}
use Rattle.v1_packets.proofs.packets.Packets.put.Goals as goal

pub returns-clause-put : goal.returns-clause-put
returns-clause-put c =
    standard_put c.args.self.now c.args.frame.now c.set.new.self c.args.slot c.args.number c.requires.frame c.requires.number c.set.ensures
