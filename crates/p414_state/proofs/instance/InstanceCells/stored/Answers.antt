use Rattle.p414_state.proofs.Elements.{number_seen}
use Rattle.p414_state.proofs.instance.InstanceCells.stored.Goals as goal

pub returns-clause-is : goal.returns-clause-is
returns-clause-is c =
    (number_seen c.self.inside.shape c.self.inside.elements.items c.self.inside.place c.args.element c.args.field c.index.result.now c.get-place.result.at c.get-place.result.width c.number.result
    c.args.self.now c.self.view_is c.self.invariant c.requires.element c.requires.field
    c.get-place.ensures.at c.get-place.ensures.width c.index.ensures c.number.ensures).0

pub returns-clause-fits : goal.returns-clause-fits
returns-clause-fits c =
    (number_seen c.self.inside.shape c.self.inside.elements.items c.self.inside.place c.args.element c.args.field c.index.result.now c.get-place.result.at c.get-place.result.width c.number.result
    c.args.self.now c.self.view_is c.self.invariant c.requires.element c.requires.field
    c.get-place.ensures.at c.get-place.ensures.width c.index.ensures c.number.ensures).1
