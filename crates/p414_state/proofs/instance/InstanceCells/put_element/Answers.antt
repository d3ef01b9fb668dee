use Rattle.p414_state.proofs.Held.{assigned_seen}
use Rattle.p414_state.proofs.instance.InstanceCells.put_element.Goals as goal

pub returns-then-element-elements : goal.returns-then-element-elements
returns-then-element-elements c =
    assigned_seen c.self.inside.shape c.self.inside.elements.items c.self.inside.place c.args.element c.args.header.now c.assign.new.self c.args.self.now c.self.view_is c.assign.ensures
