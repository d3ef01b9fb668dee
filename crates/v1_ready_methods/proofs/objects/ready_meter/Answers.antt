use Rattle.std.proofs.Common.{List, ◌∷◌, option_map, sym, ap, ◌∙◌}
use Rattle.name_numbers.specs.Names.{find_name}
use Rattle.p416_syntax.specs.Tree.{Exp16}
use Rattle.p416_scopes.specs.Seen.{seen_scope}
use Rattle.v1_ready_blocks.specs.Statements.{does}
use Rattle.v1_ready_program.specs.Seen.{seen_seats}
use Rattle.v1_ready_operands.specs.Objects.{meter_by}
use Rattle.v1_ready_methods.proofs.objects.ready_meter.Goals as goal

pub returns-clause-statement : goal.returns-clause-statement
returns-clause-statement c =
    let s = seen_scope c.args.around.scope.now in
    let seats = seen_seats c.args.around.seats.now in
    let tables = find_name c.args.tables.now in
    c.in_ok-statement.ensures.statement ∙ ap (λ es. option_map does (meter_by s seats tables c.args.object es)) (sym (sym c.in_ok-arguments.ensures ∙ (c.in_ok-index.ensures ∙ ap (λ (es : List Exp16). c.in_ok-index.index ∷ es) c.in_ok-to.ensures)))
