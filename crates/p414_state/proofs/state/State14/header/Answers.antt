use Rattle.p414_state.proofs.Puts.{inside, holds_header}
use Rattle.p414_state.proofs.state.State14.header.Goals as goal

pub returns : goal.returns
returns c =
    holds_header c.self.inside.octets.items c.self.inside.parsed c.self.inside.standard c.self.inside.requests c.self.inside.events.items c.self.inside.instances.items c.args.instance c.args.element c.index.result.now c.element.result c.args.self.now c.self.view_is
    (inside c.self.inside.octets.items c.self.inside.parsed c.self.inside.standard c.self.inside.requests c.self.inside.events.items c.self.inside.instances.items c.args.instance c.args.element c.args.self.now c.self.view_is c.requires.element)
    c.index.ensures c.element.ensures
