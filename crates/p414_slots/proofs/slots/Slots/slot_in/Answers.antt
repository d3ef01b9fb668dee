use Rattle.std.proofs.Common.{ap, ◌∙◌}
use Rattle.p414_syntax.specs.Names.{Name}
use Rattle.p414_slots.specs.Shown.{kept_slot}
use Rattle.p414_slots.specs.internal.Found.{ref_to, slot_found}
use Rattle.p414_slots.proofs.Finding.{slot_kept}
use Rattle.p414_slots.proofs.slots.Slots.slot_in.Goals as goal

pub returns : goal.returns
returns c =
    slot_kept c.args.self.now (record { instance = c.args.instance.now; field = c.args.field.now }) c.in_ok-slot.slot
    (c.in_ok-slot.ensures
    ∙ ap (λ (name : Name). kept_slot (slot_found c.args.self.now (ref_to name c.args.instance.now.index c.args.field.now))) c.as_slice.ensures)
