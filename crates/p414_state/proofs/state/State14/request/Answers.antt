use Rattle.std.proofs.Common.{ap, ◌∙◌}
use Rattle.p414_sem.specs.State.{request_of}
use Rattle.p414_state.specs.Packets.{Packet}
use Rattle.p414_state.proofs.Parts.{request_is}
use Rattle.p414_state.proofs.state.State14.request.Goals as goal

pub returns : goal.returns
returns c =
    c.get.ensures
    ∙ request_is c.self.inside.instances.items c.self.inside.octets.items c.self.inside.parsed c.self.inside.events.items c.self.inside.standard c.self.inside.requests c.args.kind
    ∙ ap (λ (p : Packet). request_of p.state c.args.kind) c.self.view_is
