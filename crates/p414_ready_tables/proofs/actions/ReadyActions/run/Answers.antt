use Rattle.std.proofs.Common.{List, All, sym, subst}
use Rattle.p414_ready_actions.specs.declared.rows.ReadyPrimitive.{ReadyPrimitive}
use Rattle.p414_act_run.specs.Fits.{FitsRow}
use Rattle.p414_ready_tables.proofs.Acting.{rows_fit}
use Rattle.p414_ready_tables.proofs.actions.ReadyActions.run.Goals as goal

pub act_ready-requires : goal.act_ready-requires
act_ready-requires c =
    subst (λ (l : List ReadyPrimitive). All (FitsRow c.args.state.now.layout c.args.store.now.shapes) l)
    (sym c.rows_of.ensures)
    (rows_fit c.args.state.now.layout c.args.store.now.shapes c.args.self.now.rows c.args.action c.requires)
