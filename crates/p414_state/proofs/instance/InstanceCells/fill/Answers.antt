use Rattle.std.proofs.Common.{rules}
use Rattle.p414_state.proofs.Elements.{fill_seen}
use Rattle.p414_state.proofs.instance.InstanceCells.fill.Goals as goal

pub returns-then-element-elements : goal.returns-then-element-elements
returns-then-element-elements c =
    fill_seen c.self.inside.shape c.self.inside.elements.items c.self.inside.place c.args.element c.octets-room.result c.args.octets.now _ c.fill.new.self c.args.self.now c.self.view_is
    c.octets-room.ensures c.fill.ensures (search rules)
