use Rattle.std.proofs.Common.{sym, ap, ◌∙◌}
use Rattle.name_numbers.specs.Names.{find_name}
use Rattle.p416_names.proofs.Found.{field_there, field_past}
use Rattle.p416_names.proofs.top.Top.field.Goals as goal

-- src/top.rt:170:5
pub returns-in-Some : goal.returns-in-Some
returns-in-Some c =
    rw (← c.self.view_is)
    (rw (← c.self.view_is) at c.field_at.ensures
    ∙ field_there c.self.inside.decls.now c.args.of.now c.args.name.now _ (ap (λ ns. find_name ns c.args.of.now) (sym c.self.invariant.types_are) ∙ (sym c.find.ensures ∙ c.in-Some.is)))

-- src/top.rt:170:5
pub returns-in-None : goal.returns-in-None
returns-in-None c =
    rw (← c.self.view_is)
    (c.built_in_field.ensures
    ∙ field_past c.self.inside.decls.now c.args.of.now c.args.name.now (ap (λ ns. find_name ns c.args.of.now) (sym c.self.invariant.types_are) ∙ (sym c.find.ensures ∙ c.in-None.is)))
