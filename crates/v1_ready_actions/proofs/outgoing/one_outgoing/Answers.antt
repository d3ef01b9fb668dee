use Rattle.std.proofs.Common.{Bool, Option, option_map, ap, ◌∙◌}
use Rattle.std.specs.Prelude.{option_and_then}
use Rattle.p416_scopes.specs.Seen.{seen_scope}
use Rattle.v1_core.specs.Seats.{Seat}
use Rattle.v1_seats.specs.Seen.{seen_seat}
use Rattle.v1_ready_program.specs.Seen.{seen_seats}
use Rattle.v1_ready_statements.specs.Given.{join_option, is_back, outgoing_at}
use Rattle.v1_ready_operands.specs.Seen.{seen_outgoing}
use Rattle.v1_ready_actions.proofs.outgoing.one_outgoing.Goals as goal

pub returns-clause-outgoing : goal.returns-clause-outgoing
returns-clause-outgoing c =
    let s = seen_scope c.args.around.scope.now in
    let seats = seen_seats c.args.around.seats.now in
    let rest = seen_outgoing c.args.nodes.now c.args.rest in
    c.in_ok-found.ensures.outgoing
    ∙ (ap (λ (x : Bool). join_option (option_and_then (λ t. outgoing_at s seats x t c.args.passed.now.argument) (option_map seen_seat c.in_ok-seat.seat)) rest) c.is_back-back.ensures
    ∙ ap (λ (o : Option Seat). join_option (option_and_then (λ t. outgoing_at s seats (is_back c.args.passed.now.parameter.now.direction) t c.args.passed.now.argument) o) rest) c.in_ok-seat.ensures)
