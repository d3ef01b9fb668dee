use Rattle.std.proofs.Common.{◌<◌, length, subst, sym, ap, ◌∙◌}
use Rattle.v1_core.specs.Cells.{Cells, slot_value}
use Rattle.v1_passes.proofs.Numbers.{slot_in, number_held}
use Rattle.v1_passes.proofs.held.Held16.number.Goals as goal

pub get-requires : goal.get-requires
get-requires c =
    subst (λ (x : Cells). c.args.slot < length x.layout.widths) (sym c.deref.ensures)
    (slot_in c.self.inside.packets.now c.self.inside.frame.value c.self.inside.unparsed c.self.inside.port c.args.slot c.args.self.now c.self.view_is c.self.invariant.0 c.requires)

pub returns : goal.returns
returns c =
    number_held c.self.inside.packets.now c.self.inside.frame.value c.self.inside.unparsed c.self.inside.port c.args.slot c.get.result c.args.self.now c.self.view_is c.self.invariant.0
    (c.get.ensures.is ∙ ap (λ (x : Cells). slot_value x c.args.slot) c.deref.ensures)
