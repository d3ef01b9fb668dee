use Rattle.p414_sem.specs.Parsing.{field_named}
use Rattle.p414_slots.proofs.Finding.{slot_kept}
use Rattle.p414_slots.proofs.slots.Slots.slot_of_field.Goals as goal

pub returns : goal.returns
returns c = slot_kept c.args.self.now (field_named c.args.instance.now c.args.field.now) c.in_ok-slot.slot c.in_ok-slot.ensures
