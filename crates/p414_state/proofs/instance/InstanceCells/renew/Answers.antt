use Rattle.std.proofs.Common.{ap, refl, ◌∙◌, arith}
use Rattle.p414_layout.specs.Placed.{total, octets_for}
use Rattle.p414_layout.specs.Shapes.{element_count}
use Rattle.p414_state.specs.internal.Cells.{Laid, new_laid}
use Rattle.p414_state.proofs.Elements.{made_cells, made_is, renewed}
use Rattle.p414_state.proofs.instance.InstanceCells.renew.Goals as goal

pub invariant_of-self : goal.invariant_of-self
invariant_of-self c =
    let shape = c.self.inside.shape in
    made_cells shape c.empty_first.new.elements.items (element_count shape) (octets_for (total shape.widths)) refl refl
    (renewed shape c.self.inside.elements.items c.empty_first.new.elements.items c.self.inside.place c.len-count.result c.self.invariant (omega arith) c.empty_first.ensures)

pub returns : goal.returns
returns c =
    let shape = c.self.inside.shape in
    made_is shape c.empty_first.new.elements.items (element_count shape) (octets_for (total shape.widths)) refl refl
    (renewed shape c.self.inside.elements.items c.empty_first.new.elements.items c.self.inside.place c.len-count.result c.self.invariant (omega arith) c.empty_first.ensures)
    ∙ ap (λ (l : Laid). new_laid l.shape) c.self.view_is
