use Rattle.std.proofs.Common.{ap, ◌∙◌}
use Rattle.p416_names.specs.SeenKinds.{seen_kind}
use Rattle.p416_scopes.specs.Seen.{seen_scope}
use Rattle.v1_ready_program.specs.Seen.{seen_seats}
use Rattle.v1_ready_statements.specs.Statements.{initial_ready}
use Rattle.v1_ready_controls.proofs.singles.InBlockSingles.initial.Goals as goal

pub returns-clause-statement : goal.returns-clause-statement
returns-clause-statement c =
    c.in_ok-found.ensures.statement
    ∙ ap (λ b. initial_ready b (seen_scope c.args.around.scope.now) (seen_seats c.args.around.seats.now) c.args.number (seen_kind c.args.kind) c.args.value.now) c.self.view_is
