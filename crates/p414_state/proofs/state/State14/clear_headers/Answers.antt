use Rattle.p414_state.proofs.Instances.{begun_seen}
use Rattle.p414_state.proofs.state.State14.clear_headers.Goals as goal

pub returns : goal.returns
returns c = begun_seen c.self.inside.octets.items c.self.inside.parsed c.self.inside.standard c.self.inside.requests c.self.inside.events.items c.self.inside.instances.items c.begin_all.new.instances.items c.args.self.now c.self.view_is c.begin_all.ensures
