use Rattle.p414_state.proofs.Elements.{put_seen}
use Rattle.p414_state.proofs.instance.InstanceCells.store.Goals as goal

pub returns : goal.returns
returns c =
    put_seen c.self.inside.shape c.self.inside.elements.items c.self.inside.place c.args.element c.args.field c.args.value c.index_mut.result.now c.put.new.self c.get-place.result.at c.get-place.result.width
    c.args.self.now c.self.view_is c.self.invariant c.requires.element c.requires.field c.requires.value
    c.get-place.ensures.at c.get-place.ensures.width c.get-place.ensures.within c.index_mut.ensures.value c.put.ensures.valid c.put.ensures.bits
