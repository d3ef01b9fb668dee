use Rattle.p414_state.proofs.Held.{copy_holds}
use Rattle.p414_state.proofs.instance.InstanceCells.element.Goals as goal

pub returns : goal.returns
returns c = copy_holds c.self.inside.shape c.self.inside.elements.items c.self.inside.place c.args.element c.index.result.now c.copy.result c.args.self.now c.self.view_is c.self.invariant c.requires c.index.ensures c.copy.ensures
