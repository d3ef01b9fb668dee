use Rattle.p414_state.proofs.Instances.{valid_seen}
use Rattle.p414_state.proofs.state.State14.put_valid.Goals as goal

pub returns-then-has-clause-put : goal.returns-then-has-clause-put
returns-then-has-clause-put c =
    valid_seen c.self.inside.octets.items c.self.inside.parsed c.self.inside.standard c.self.inside.requests c.self.inside.events.items c.self.inside.instances.items c.args.instance c.args.element c.args.on c.index_mut.result.now c.put_valid.new.self c.args.self.now c.self.view_is
    c.if-has.ensures c.index_mut.ensures.value c.put_valid.ensures
