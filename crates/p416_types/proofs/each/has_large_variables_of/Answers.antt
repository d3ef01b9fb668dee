use Rattle.std.proofs.Common.{List, sym, ap, ◌∙◌}
use Rattle.p416_syntax.specs.declared.program.Decl16.{Decl16}
use Rattle.p416_syntax.specs.Declarations.{layouts_of}
use Rattle.p416_syntax.specs.Totals.{has_large_variables}
use Rattle.p416_syntax.specs.Breaks.{program_uses}
use Rattle.p416_types.proofs.Exactly.{held_is}
use Rattle.p416_types.proofs.each.has_large_variables_of.Goals as goal

pub returns : goal.returns
returns c =
    c.has_large_variables.ensures (program_uses c.args.syntax.now) (held_is (program_uses c.args.syntax.now) c.args.found.now _ c.requires.found c.held-held.ensures)
    ∙ ap (λ (ds : List Decl16). has_large_variables (layouts_of ds) (program_uses c.args.syntax.now)) (sym c.requires.totals)
