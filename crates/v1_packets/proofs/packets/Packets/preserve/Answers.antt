use Rattle.std.proofs.Common.{arith}
use Rattle.v1_packets.proofs.Begun.{metadata_there, keeps}
use Rattle.v1_packets.proofs.packets.Packets.preserve.Goals as goal

pub keep-requires-clause-lone : goal.keep-requires-clause-lone
keep-requires-clause-lone c =
    metadata_there c.args.self.now c.args.frame.now c.found-found.result.now c.requires c.found-found.ensures

pub returns-clause-preserves : goal.returns-clause-preserves
returns-clause-preserves c =
    keeps c.args.self.now c.args.frame.now c.found-found.result.now c.deref.result.now c.args.list c.in_ok-kept.kept.items c.found-found.ensures c.deref.ensures.value (omega arith) c.in_ok-kept.ensures
