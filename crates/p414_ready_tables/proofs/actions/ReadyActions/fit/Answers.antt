use Rattle.std.proofs.Common.{List, All, subst}
use Rattle.p414_ready_actions.specs.declared.rows.ReadyPrimitive.{ReadyPrimitive}
use Rattle.p414_ready_tables.specs.internal.Acting.{FitAll}
use Rattle.p414_ready_tables.proofs.actions.ReadyActions.fit.Goals as goal

pub returns : goal.returns
returns c =
    λ fits.
    subst (λ (l : List (List ReadyPrimitive)). All (FitAll c.args.state.now.layout c.args.store.now.shapes) l)
    c.as_slice.ensures (c.all_fit.ensures fits)
