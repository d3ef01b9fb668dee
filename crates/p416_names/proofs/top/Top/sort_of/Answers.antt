use Rattle.std.proofs.Common.{sym, ap, ◌∙◌}
use Rattle.std.specs.Option.{option_map}
use Rattle.p416_syntax.specs.Declarations.{top_names}
use Rattle.p416_names.specs.Seen.{seen_sort}
use Rattle.p416_names.proofs.Found.{declared_past, built_in_past}
use Rattle.p416_names.proofs.top.Top.sort_of.Goals as goal

-- src/top.rt:127:5
pub returns-in-Some : goal.returns-in-Some
returns-in-Some c =
    declared_past c.args.self.now c.args.name.now _ (sym c.declared.ensures ∙ ap (option_map (seen_sort (top_names c.args.self.now))) c.in-Some.is)

-- src/top.rt:127:5
pub returns-in-None : goal.returns-in-None
returns-in-None c =
    c.built_in_sort.ensures (top_names c.args.self.now)
    ∙ built_in_past c.args.self.now c.args.name.now (sym c.declared.ensures ∙ ap (option_map (seen_sort (top_names c.args.self.now))) c.in-None.is)
