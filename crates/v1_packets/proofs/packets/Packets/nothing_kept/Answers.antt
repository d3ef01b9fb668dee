use Rattle.v1_packets.proofs.Begun.{nothing_kept}
use Rattle.v1_packets.proofs.packets.Packets.nothing_kept.Goals as goal

pub returns : goal.returns
returns c = nothing_kept c.args.self.now c.found-found.result.now c.found-found.ensures
