use Rattle.std.proofs.Common.{option_map, sym, ap, ◌∙◌}
use Rattle.p416_scopes.specs.Seen.{seen_scope}
use Rattle.v1_ready_blocks.specs.Statements.{does}
use Rattle.v1_ready_program.specs.Seen.{seen_seats}
use Rattle.v1_ready_operands.specs.internal.Passes.{drop_deed}
use Rattle.v1_ready_functions.proofs.functions.call_drop.Goals as goal

pub returns-clause-statement : goal.returns-clause-statement
returns-clause-statement c =
    let s = seen_scope c.args.around.scope.now in
    let seats = seen_seats c.args.around.seats.now in
    c.in_ok-statement.ensures.statement ∙ ap (λ es. option_map does (drop_deed s seats es)) (sym (sym c.in_ok-arguments.ensures ∙ c.in_ok-standard.ensures))
