use Rattle.std.proofs.Common.{List, [], Option, ap, ◌∙◌}
use Rattle.std.specs.Prelude.{unwrap_or}
use Rattle.std.proofs.lemmas.Option.{unwrap_or-slice_get}
use Rattle.p414_ready_actions.specs.declared.rows.ReadyPrimitive.{ReadyPrimitive}
use Rattle.p414_ready_tables.proofs.actions.ReadyActions.rows_of.Goals as goal

pub returns-in-None : goal.returns-in-None
returns-in-None c =
    ap (λ (o : Option (List ReadyPrimitive)). unwrap_or o []) c.in-None.ensures
    ∙ unwrap_or-slice_get c.args.self.now.rows c.args.action []
