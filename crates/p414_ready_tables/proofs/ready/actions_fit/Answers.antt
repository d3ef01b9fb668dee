use Rattle.std.proofs.Common.{List, ap, subst}
use Rattle.p414_layout.specs.declared.shape.Shape.{Shape}
use Rattle.p414_state.specs.Packets.{Packet}
use Rattle.p414_ready_tables.specs.internal.Acting.{FitsActions}
use Rattle.p414_ready_tables.proofs.ready.actions_fit.Goals as goal

pub returns : goal.returns
returns c =
    λ fit.
    subst (λ (l : List Shape). FitsActions l c.args.store.now.shapes c.args.actions.now)
    (ap (λ (p : Packet). p.layout) c.in_ok-state.ensures) (c.fit.ensures fit)
