use Rattle.match_core.proofs.InParts.{puts, on_ok}
use Rattle.match_core.proofs.numbers.NumberMap.put.Goals as goal

pub returns : goal.returns
returns c =
    on_ok c.put.result (λ put. rw (← c.self.view_is) (puts c.self.inside.parts.items c.part_number-place.result c.index_mut.result.now c.put.new.self c.args.number c.args.entry c.self.invariant
    (rw c.deref.ensures.value at c.part_number-place.ensures) c.index_mut.ensures.value put).put) c.put.ensures.put
