use Rattle.std.proofs.Common.{rules}
use Rattle.p414_state.proofs.Held.{octets_seen}
use Rattle.p414_state.proofs.instance.InstanceCells.octets.Goals as goal

pub returns-in-Some-clause-bits : goal.returns-in-Some-clause-bits
returns-in-Some-clause-bits c = λ lt whole.
    octets_seen c.self.inside.shape c.self.inside.elements.items c.self.inside.place c.args.element c.in-Some.found.now c.octets.result.now c.args.self.now c.self.view_is c.self.invariant lt whole
    (search rules) c.octets.ensures
