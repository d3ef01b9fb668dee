use Rattle.std.proofs.Common.{codes}
use Rattle.v1_packets.proofs.Begun.{standard_read}
use Rattle.v1_packets.proofs.packets.Packets.packet_length.Goals as goal

pub returns : goal.returns
returns c =
    standard_read c.args.self.now c.args.frame.now (codes "packet_length") 32 c.found-found.result.now.fields.packet_length c.get.result c.requires c.found-found.ensures.packet_length c.get.ensures.is
