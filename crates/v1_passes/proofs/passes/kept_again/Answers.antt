use Rattle.v1_packets.specs.Packets.{packet_frame}
use Rattle.v1_passes.proofs.Ends.{again_asked}
use Rattle.v1_passes.proofs.passes.kept_again.Goals as goal

pub returns-in_ok-kept-in-Some : goal.returns-in_ok-kept-in-Some
returns-in_ok-kept-in-Some c =
    again_asked c.args.packets.now (packet_frame c.args.packets.now c.args.frame.now) c.in-Some.field-0-0 c.in-Some.list c.in_ok-kept-in-Some.kept c.args.frame.now.recirculate c.in-Some.ensures c.in_ok-kept-in-Some.ensures
