use Rattle.std.proofs.Common.{◌∙◌, sym}
use Rattle.p414_state.proofs.Elements.{live_or_dead}
use Rattle.p414_state.proofs.instance.InstanceCells.is_live.Goals as goal

pub returns-then-is_valid : goal.returns-then-is_valid
returns-then-is_valid c =
    live_or_dead c.self.inside.shape c.self.inside.elements.items c.self.inside.place c.args.element c.args.field c.len.result c.args.self.now c.self.view_is c.self.invariant
    (sym c.is_valid.ensures ∙ c.if-is_valid.true) c.len.ensures
