use Rattle.std.proofs.Common.{◌<◌, ◌^◌, length, subst, sym, ap, ◌∙◌}
use Rattle.std.specs.Prelude.{slice_index}
use Rattle.v1_core.specs.Cells.{Cells, with_slot}
use Rattle.v1_passes.proofs.Numbers.{slot_in, number_fits, number_left}
use Rattle.v1_passes.proofs.held.Held16.put.Goals as goal

pub set-requires-clause-slot : goal.set-requires-clause-slot
set-requires-clause-slot c =
    subst (λ (x : Cells). c.args.slot < length x.layout.widths) (sym c.deref_mut.ensures.value)
    (slot_in c.self.inside.packets.now c.self.inside.frame.value c.self.inside.unparsed c.self.inside.port c.args.slot c.args.self.now c.self.view_is c.self.invariant.0 c.requires.slot)

pub set-requires-clause-value : goal.set-requires-clause-value
set-requires-clause-value c =
    subst (λ (x : Cells). c.args.value < 2 ^ slice_index x.layout.widths c.args.slot) (sym c.deref_mut.ensures.value)
    (number_fits c.self.inside.packets.now c.self.inside.frame.value c.self.inside.unparsed c.self.inside.port c.args.slot c.args.value c.args.self.now c.self.view_is c.self.invariant.0 c.requires.value)

pub returns-clause-put : goal.returns-clause-put
returns-clause-put c =
    number_left c.self.inside.packets.now c.self.inside.frame.value c.set.new.self c.self.inside.unparsed c.self.inside.port c.args.slot c.args.value c.args.self.now c.self.view_is c.self.invariant.0
    (c.set.ensures ∙ ap (λ (x : Cells). with_slot x c.args.slot c.args.value) c.deref_mut.ensures.value)
