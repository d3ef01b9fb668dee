use Rattle.std.proofs.Common.{ap}
use Rattle.v1_packets.specs.Packets.{packet_frame}
use Rattle.v1_packets.proofs.Begun.{clone_made}
use Rattle.v1_packets.proofs.packets.Packets.clone_frame.Goals as goal

pub returns-clause-is : goal.returns-clause-is
returns-clause-is c =
    let s = c.args.self.now in
    clone_made s c.args.frame.now (packet_frame s c.in_ok-clone.clone) (packet_frame s c.clear.new.frame) (packet_frame s c.put_kept.new.frame) (packet_frame s c.clear_standard.new.frame) (packet_frame s c.put_fresh.new.frame)
    c.in_ok-kept.kept.items c.deref.result.now c.args.list c.args.port c.packet_length-octets.result (ap (packet_frame s) c.in_ok-clone.ensures) c.clear.ensures.cleared
    c.put_kept.ensures.put c.deref.ensures.value c.clear_standard.ensures.put c.put_fresh.ensures.put c.packet_length-octets.ensures (c.in_ok-kept.ensures.preserves 0)
