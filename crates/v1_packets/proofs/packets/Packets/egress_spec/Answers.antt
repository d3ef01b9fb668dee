use Rattle.std.proofs.Common.{codes}
use Rattle.v1_packets.proofs.Begun.{standard_read}
use Rattle.v1_packets.proofs.packets.Packets.egress_spec.Goals as goal

pub returns-clause-is : goal.returns-clause-is
returns-clause-is c =
    standard_read c.args.self.now c.args.frame.now (codes "egress_spec") 9 c.found-found.result.now.fields.egress_spec c.get.result c.requires c.found-found.ensures.egress_spec c.get.ensures.is
