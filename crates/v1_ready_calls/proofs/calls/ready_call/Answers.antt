use Rattle.std.proofs.Common.{ap, ◌∙◌}
use Rattle.p416_scopes.specs.Seen.{seen_scope}
use Rattle.v1_ready_program.specs.Seen.{seen_seats}
use Rattle.v1_ready_operands.specs.Callees.{around_of}
use Rattle.v1_ready_calls.specs.internal.Calls.{ready_by}
use Rattle.v1_ready_calls.proofs.Calling.{expression_is}
use Rattle.v1_ready_calls.proofs.calls.ready_call.Goals as goal

pub returns-clause-statement : goal.returns-clause-statement
returns-clause-statement c =
    let b = around_of c.args.callees in
    let s = seen_scope c.args.around.scope.now in
    let seats = seen_seats c.args.around.seats.now in
    c.in_ok-statement.ensures.statement ∙ (ap (ready_by b s seats c.args.call.now) c.call_in-called.ensures ∙ expression_is b s seats c.args.call.now)
