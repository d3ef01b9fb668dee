use Rattle.v1_packets.specs.Packets.{packet_frame}
use Rattle.v1_passes.proofs.Ends.{clone_asked}
use Rattle.v1_passes.proofs.passes.ingress_clone.Goals as goal

pub returns-in_ok-kept-in-Some : goal.returns-in_ok-kept-in-Some
returns-in_ok-kept-in-Some c =
    clone_asked c.args.packets.now (packet_frame c.args.packets.now c.args.frame.now) c.in-Some.session c.in-Some.list c.in_ok-kept-in-Some.kept c.args.frame.now.clone_i2e c.in-Some.ensures c.in_ok-kept-in-Some.ensures
