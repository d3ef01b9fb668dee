use Rattle.std.proofs.Common.{length, sym}
use Rattle.std.proofs.lemmas.Bool.{eqb-true}
use Rattle.v1_packets.specs.Packets.{packet_frame}
use Rattle.v1_packets.proofs.Begun.{none_brought}
use Rattle.v1_packets.proofs.packets.Packets.bring.Goals as goal

pub returns-else-not-is_empty-clause-brought : goal.returns-else-not-is_empty-clause-brought
returns-else-not-is_empty-clause-brought c =
    none_brought c.args.self.now c.found-found.result.now c.args.kept.now (packet_frame c.args.self.now c.args.frame.now) c.found-found.ensures (eqb-true (length c.args.kept.now) 0 (sym (c.if-not-is_empty.ensures))) c.requires.blank
