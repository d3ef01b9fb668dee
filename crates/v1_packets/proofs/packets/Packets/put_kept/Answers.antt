use Rattle.v1_packets.proofs.Begun.{metadata_there, metadata_put}
use Rattle.v1_packets.proofs.packets.Packets.put_kept.Goals as goal

pub fill-requires-clause-lone : goal.fill-requires-clause-lone
fill-requires-clause-lone c =
    metadata_there c.args.self.now c.args.frame.now c.found-found.result.now c.requires.frame c.found-found.ensures

pub returns-clause-put : goal.returns-clause-put
returns-clause-put c =
    metadata_put c.args.self.now c.args.frame.now c.fill.new.frame c.found-found.result.now c.args.kept.now c.found-found.ensures c.fill.ensures
