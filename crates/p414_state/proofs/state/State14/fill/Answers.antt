use Rattle.std.proofs.Common.{arith}
use Rattle.std.proofs.lemmas.Grind.{common_steps}
use Rattle.p414_state.proofs.Instances.{fill_seen}
use Rattle.p414_state.proofs.state.State14.fill.Goals as goal

pub returns-then-has : goal.returns-then-has
returns-then-has c =
    fill_seen c.self.inside.octets.items c.self.inside.parsed c.self.inside.standard c.self.inside.requests c.self.inside.events.items c.self.inside.instances.items c.args.instance c.args.element _ c.index_mut.result.now c.fill.new.self c.args.self.now c.self.view_is
    c.if-has.ensures c.index_mut.ensures.value c.fill.ensures (grind (arith, common_steps))
