use Rattle.std.proofs.Common.{ℕ, Option, ap, ◌∙◌}
use Rattle.p414_slots.specs.internal.Found.{bits_by}
use Rattle.p414_slots.proofs.Finding.{bits_found}
use Rattle.p414_slots.proofs.slots.Slots.bits_of_fields.Goals as goal

pub returns : goal.returns
returns c =
    bits_found _ _ _ _ _ _ _ _ c.self.view_is c.self.invariant c.deref.ensures.value
    (c.bits_by.ensures ∙ ap (λ (o : Option ℕ). bits_by c.deref.result.now o) c.type_number.ensures)
