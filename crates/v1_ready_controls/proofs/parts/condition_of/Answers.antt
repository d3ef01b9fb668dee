use Rattle.p416_syntax.specs.Kinds.{boolean}
use Rattle.p416_syntax.specs.Calls.{value}
use Rattle.p416_scopes.specs.Seen.{seen_scope}
use Rattle.v1_ready_program.specs.Seen.{seen_seats}
use Rattle.v1_ready_controls.proofs.Asking.{test_is}
use Rattle.v1_ready_controls.proofs.parts.condition_of.Goals as goal

pub returns-clause-test : goal.returns-clause-test
returns-clause-test c =
    test_is c.args.callees c.requires.callees (seen_scope c.args.around.scope.now) (seen_seats c.args.around.seats.now) (value boolean) c.args.condition.now _ c.in_ok-found.ensures.test
