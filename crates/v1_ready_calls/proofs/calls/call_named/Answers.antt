use Rattle.std.proofs.Common.{ap, ◌∙◌}
use Rattle.p416_syntax.specs.Uses.{arguments_of}
use Rattle.p416_syntax.specs.Scopes.{Sort}
use Rattle.p416_scopes.specs.Seen.{seen_scope}
use Rattle.v1_ready_program.specs.Seen.{seen_seats}
use Rattle.v1_ready_statements.specs.Called.{named_statement}
use Rattle.v1_ready_operands.specs.Callees.{around_of}
use Rattle.v1_ready_calls.proofs.calls.call_named.Goals as goal

pub returns-clause-statement : goal.returns-clause-statement
returns-clause-statement c =
    let b = around_of c.args.callees in
    let s = seen_scope c.args.around.scope.now in
    let seats = seen_seats c.args.around.seats.now in
    c.in_ok-statement.ensures.statement ∙ ap (λ (x : Sort). named_statement b s seats x c.args.name.now (arguments_of c.args.given.now)) c.sort_of-sort.ensures
