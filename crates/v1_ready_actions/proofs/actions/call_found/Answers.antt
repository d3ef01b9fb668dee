use Rattle.std.proofs.Common.{◌∙◌}
use Rattle.p416_syntax.specs.Uses.{arguments_of}
use Rattle.p416_scopes.specs.Seen.{seen_scope}
use Rattle.v1_ready_program.specs.Seen.{seen_seats}
use Rattle.v1_ready_statements.specs.Given.{any_applies, all_incoming, all_outgoing}
use Rattle.v1_ready_operands.specs.Callees.{around_of}
use Rattle.v1_ready_operands.specs.Seen.{seen_incoming, seen_outgoing}
use Rattle.v1_ready_operands.proofs.Chaining.{incoming_stays, call_is}
use Rattle.v1_ready_actions.proofs.actions.call_found.Goals as goal

pub returns-clause-statement : goal.returns-clause-statement
returns-clause-statement c =
    let b = around_of c.args.callees in
    let s = seen_scope c.args.around.scope.now in
    let seats = seen_seats c.args.around.seats.now in
    let es = arguments_of c.args.given.now in
    let own = c.args.found.own in
    c.in_ok-statement.ensures.statement
    ∙ call_is c.args.found.number c.in_ok-apart.apart (any_applies s es) (seen_incoming c.outgoing_given.new.nodes c.in_ok-incoming.incoming) (all_incoming b s seats own.first own.action.now.parameters es)
    (seen_outgoing c.outgoing_given.new.nodes c.in_ok-outgoing.outgoing) (all_outgoing b s seats own.first own.action.now.parameters es) c.in_ok-apart.ensures
    (incoming_stays c.incoming_given.new.nodes c.outgoing_given.new.nodes c.in_ok-incoming.incoming c.in_ok-outgoing.ensures.grows c.in_ok-incoming.ensures.within ∙ c.in_ok-incoming.ensures.incoming)
    c.in_ok-outgoing.ensures.outgoing
