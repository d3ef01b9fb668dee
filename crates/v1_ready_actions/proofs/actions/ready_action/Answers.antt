use Rattle.std.proofs.Common.{ap, ◌∙◌}
use Rattle.std.specs.Prelude.{option_and_then}
use Rattle.p416_syntax.specs.Uses.{arguments_of}
use Rattle.p416_scopes.specs.Seen.{seen_scope}
use Rattle.v1_ready_program.specs.Seen.{seen_seats}
use Rattle.v1_ready_statements.specs.Called.{action_call}
use Rattle.v1_ready_operands.specs.Callees.{around_of}
use Rattle.v1_ready_actions.proofs.actions.ready_action.Goals as goal

pub returns-clause-statement : goal.returns-clause-statement
returns-clause-statement c =
    c.in_ok-statement.ensures.statement
    ∙ ap (option_and_then (action_call (around_of c.args.callees) (seen_scope c.args.around.scope.now) (seen_seats c.args.around.seats.now) (arguments_of c.args.given.now))) c.action_called-found.ensures
