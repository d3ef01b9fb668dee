use Rattle.std.proofs.Common.{◌∙◌, refl}
use Rattle.match_core.proofs.InParts.{own_place}
use Rattle.match_core.proofs.numbers.NumberMap.get.Goals as goal

pub returns : goal.returns
returns c =
    c.get.ensures
    ∙ (own_place c.self.inside.parts.items c.part_number-place.result c.index.result.now c.args.number c.self.invariant (rw c.deref.ensures.value at c.part_number-place.ensures) c.index.ensures
    ∙ rw c.self.view_is refl)
