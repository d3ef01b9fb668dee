use Rattle.p414_state.proofs.Elements.{clear_seen}
use Rattle.p414_state.proofs.instance.InstanceCells.clear.Goals as goal

pub returns : goal.returns
returns c =
    clear_seen c.self.inside.shape c.self.inside.elements.items c.self.inside.place c.args.element c.args.valid c.index_mut.result.now c.clear.new.self c.args.self.now c.self.view_is c.self.invariant
    c.requires.element c.index_mut.ensures.value c.clear.ensures
