use Rattle.p414_state.proofs.Puts.{cleared_seen}
use Rattle.p414_state.proofs.state.State14.clear_header.Goals as goal

pub returns-then-has : goal.returns-then-has
returns-then-has c =
    cleared_seen c.self.inside.octets.items c.self.inside.parsed c.self.inside.standard c.self.inside.requests c.self.inside.events.items c.self.inside.instances.items c.args.instance c.args.element c.args.valid c.index_mut.result.now c.put_cleared.new.self c.args.self.now c.self.view_is
    c.if-has.ensures c.index_mut.ensures.value c.put_cleared.ensures
