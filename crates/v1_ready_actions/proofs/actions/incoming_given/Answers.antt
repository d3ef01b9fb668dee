use Rattle.std.proofs.Common.{ap, ◌∙◌}
use Rattle.p416_scopes.specs.Seen.{seen_scope}
use Rattle.v1_ready_program.specs.Seen.{seen_seats}
use Rattle.v1_ready_statements.specs.Given.{all_incoming}
use Rattle.v1_ready_operands.specs.Callees.{around_of}
use Rattle.v1_ready_actions.proofs.actions.incoming_given.Goals as goal

pub returns-clause-incoming : goal.returns-clause-incoming
returns-clause-incoming c =
    let b = around_of c.args.callees in
    let s = seen_scope c.args.around.scope.now in
    let seats = seen_seats c.args.around.seats.now in
    c.in_ok-found.ensures.incoming
    ∙ (c.in_ok-passed.ensures.incoming b s seats
    ∙ (ap (λ ps. all_incoming b s seats c.args.own.first ps c.in_ok-arguments.arguments) c.as_slice-parameters.ensures
    ∙ ap (all_incoming b s seats c.args.own.first c.args.own.action.now.parameters) c.in_ok-arguments.ensures))
