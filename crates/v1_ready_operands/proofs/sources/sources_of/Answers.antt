use Rattle.std.proofs.Common.{[], ◌∷◌, ap, ◌∙◌}
use Rattle.name_numbers.specs.Names.{find_name}
use Rattle.p416_syntax.specs.Calls.{owner}
use Rattle.p416_scopes.specs.Seen.{seen_scope}
use Rattle.v1_ready_forms.specs.Ways.{its_value}
use Rattle.v1_ready_program.specs.Seen.{seen_seats}
use Rattle.v1_ready_program.specs.internal.Passes.{asked}
use Rattle.v1_ready_operands.specs.internal.Coded.{seen_founds}
use Rattle.v1_ready_operands.specs.internal.SourcePasses.{founds, joined}
use Rattle.v1_ready_operands.proofs.Joining.{joins_whole}
use Rattle.v1_ready_operands.proofs.sources.sources_of.Goals as goal

pub returns-clause-sources : goal.returns-clause-sources
returns-clause-sources c =
    let s = seen_scope c.args.around.scope.now in
    let seats = seen_seats c.args.around.seats.now in
    let tables = find_name c.args.tables.now in
    c.in_ok-sources.ensures.sources
    ∙ (ap (λ fs. joined (seen_founds c.all_found.new.nodes fs)) c.deref-2.ensures.value
    ∙ (ap joined c.in_ok-founds.ensures.found
    ∙ (ap (λ es. joined (founds s seats tables (asked owner its_value ∷ []) es)) (c.deref.ensures.value ∙ c.in_ok-views.ensures.views)
    ∙ joins_whole s seats tables c.args.expression.now)))
