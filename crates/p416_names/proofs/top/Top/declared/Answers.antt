use Rattle.std.proofs.Common.{sym, ◌∙◌}
use Rattle.p416_syntax.specs.Declarations.{top_names}
use Rattle.p416_names.proofs.Found.{declared_there}
use Rattle.p416_names.proofs.top.Top.declared.Goals as goal

-- src/top.rt:117:5
pub returns-in-Some : goal.returns-in-Some
returns-in-Some c =
    rw (← c.self.view_is)
    (c.sort_at.ensures (top_names c.self.inside.decls.now)
    ∙ declared_there c.self.inside.decls.now c.self.inside.names c.args.name.now _ c.self.invariant.names_are (sym c.find.ensures ∙ c.in-Some.is))
