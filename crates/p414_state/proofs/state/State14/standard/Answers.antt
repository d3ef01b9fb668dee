use Rattle.std.proofs.Common.{ap, ◌∙◌}
use Rattle.p414_sem.specs.State.{standard_number}
use Rattle.p414_state.specs.Packets.{Packet}
use Rattle.p414_state.proofs.Parts.{standard_is}
use Rattle.p414_state.proofs.state.State14.standard.Goals as goal

pub returns-clause-is : goal.returns-clause-is
returns-clause-is c =
    c.get.ensures.is
    ∙ standard_is c.self.inside.instances.items c.self.inside.octets.items c.self.inside.parsed c.self.inside.events.items c.self.inside.standard c.self.inside.requests c.args.field
    ∙ ap (λ (p : Packet). standard_number p.state c.args.field) c.self.view_is
