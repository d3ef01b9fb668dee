use Rattle.p414_slots.proofs.Finding.{field_found}
use Rattle.p414_slots.proofs.slots.Slots.field.Goals as goal

pub returns : goal.returns
returns c = field_found _ _ _ _ _ _ _ _ _ c.self.view_is c.self.invariant c.deref.ensures.value c.in_ok-number.ensures
