use Rattle.p416_scopes.specs.Seen.{seen_scope}
use Rattle.v1_ready_program.specs.Seen.{seen_seats}
use Rattle.v1_ready_controls.proofs.Asking.{assignment_is}
use Rattle.v1_ready_controls.proofs.parts.assignment_of.Goals as goal

pub returns-clause-statement : goal.returns-clause-statement
returns-clause-statement c =
    assignment_is c.args.callees c.requires.callees (seen_scope c.args.around.scope.now) (seen_seats c.args.around.seats.now) c.args.target.now c.args.value.now _ c.in_ok-found.ensures.statement
