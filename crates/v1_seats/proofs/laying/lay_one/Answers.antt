use Rattle.std.proofs.Common.{List, map, subst, ap, ◌∙◌, IfOk}
use Rattle.p416_syntax.specs.Scopes.{fields_in}
use Rattle.v1_core.specs.Seats.{Form}
use Rattle.v1_seats.specs.internal.Rows.{form_of_kind, IsLaid, name_at}
use Rattle.v1_seats.proofs.Naming.{forms_named}
use Rattle.v1_seats.proofs.laying.lay_one.Goals as goal

pub returns : goal.returns
returns c =
    subst (λ (forms : List Form). IfOk c.lay_members.result (IsLaid c.args.rows.now.types forms))
    (ap (map form_of_kind) c.deref.ensures.value ∙ forms_named c.in_ok-row.row.now.kinds.items (fields_in c.args.rows.now.types (name_at c.args.rows.now c.args.number)) c.in_ok-row.ensures.kinds)
    c.lay_members.ensures
