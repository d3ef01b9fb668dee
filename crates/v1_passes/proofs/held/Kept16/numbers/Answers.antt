use Rattle.v1_passes.proofs.Ends.{numbers_are, numbers_fit}
use Rattle.v1_passes.proofs.held.Kept16.numbers.Goals as goal

pub returns-clause-value : goal.returns-clause-value
returns-clause-value c =
    numbers_are c.self.inside.packets.now c.self.inside.numbers.items c.deref.result.now c.args.self.now c.self.view_is c.deref.ensures.value

pub returns-clause-fits : goal.returns-clause-fits
returns-clause-fits c =
    numbers_fit c.self.inside.packets.now c.self.inside.numbers.items c.deref.result.now c.args.self.now c.self.view_is c.deref.ensures.value c.self.invariant
