use Rattle.v1_packets.proofs.Begun.{standard_there, standard_cleared}
use Rattle.v1_packets.proofs.packets.Packets.clear_standard.Goals as goal

pub fill-requires-clause-lone : goal.fill-requires-clause-lone
fill-requires-clause-lone c =
    standard_there c.args.self.now c.args.frame.now c.found-found.result.now c.requires c.found-found.ensures

pub returns-clause-put : goal.returns-clause-put
returns-clause-put c =
    standard_cleared c.args.self.now c.args.frame.now c.fill.new.frame c.found-found.result.now c.found-found.ensures c.fill.ensures
