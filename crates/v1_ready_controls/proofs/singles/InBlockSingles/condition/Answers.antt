use Rattle.std.proofs.Common.{ap, ◌∙◌}
use Rattle.p416_syntax.specs.Kinds.{boolean}
use Rattle.p416_syntax.specs.Calls.{value}
use Rattle.p416_scopes.specs.Seen.{seen_scope}
use Rattle.v1_ready_program.specs.Seen.{seen_seats}
use Rattle.v1_ready_statements.specs.Around.{table_found}
use Rattle.v1_ready_statements.specs.Tested.{ready_test}
use Rattle.v1_ready_controls.proofs.singles.InBlockSingles.condition.Goals as goal

pub returns-clause-test : goal.returns-clause-test
returns-clause-test c =
    c.in_ok-found.ensures.test
    ∙ ap (λ b. ready_test (seen_scope c.args.around.scope.now) (seen_seats c.args.around.seats.now) (table_found b) (value boolean) c.args.condition.now) c.self.view_is
