use Rattle.std.proofs.Common.{ℕ, Option, option_map, sym, ap, ◌∙◌}
use Rattle.p416_syntax.specs.Names.{Name}
use Rattle.p416_scopes.specs.Seen.{seen_scope}
use Rattle.v1_ready_blocks.specs.Statements.{emit_headers, does}
use Rattle.v1_ready_program.specs.Seen.{seen_seats}
use Rattle.v1_ready_statements.specs.Tested.{ready_source}
use Rattle.v1_ready_operands.specs.Callees.{around_of}
use Rattle.v1_ready_operands.specs.internal.Passes.{emit_deed}
use Rattle.v1_ready_operands.proofs.Naming.{tables_found}
use Rattle.v1_ready_methods.proofs.methods.emit_given.Goals as goal

pub returns-clause-statement : goal.returns-clause-statement
returns-clause-statement c =
    let s = seen_scope c.args.around.scope.now in
    let seats = seen_seats c.args.around.seats.now in
    let b = around_of c.args.callees in
    c.in_ok-statement.ensures.statement
    ∙ (ap (λ (t : Name → Option ℕ). option_map does (option_map emit_headers (ready_source s seats t c.in_ok-headers.headers))) (tables_found c.args.callees c.requires.callees)
    ∙ ap (λ es. option_map does (emit_deed b s seats es)) (sym (sym c.in_ok-arguments.ensures ∙ c.in_ok-headers.ensures)))
