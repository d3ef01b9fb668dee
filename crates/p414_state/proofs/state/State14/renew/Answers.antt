use Rattle.std.proofs.Common.{ap, ◌∙◌, rules}
use Rattle.p414_state.specs.Packets.{Packet, new_packet}
use Rattle.p414_state.proofs.Instances.{renewed_seen}
use Rattle.p414_state.proofs.state.State14.renew.Goals as goal

pub returns : goal.returns
returns c =
    renewed_seen c.self.inside.instances.items c.renew_all.new.instances.items c.extend_from_slice.new.self.items c.args.octets.now c.clear-2.new.self.items c.length_of.result c.args.port c.args.kind
    c.renew_all.ensures (search rules) c.length_of.ensures (search rules)
    ∙ ap (λ (p : Packet). new_packet p.layout c.args.octets.now c.args.port c.args.kind) c.self.view_is
