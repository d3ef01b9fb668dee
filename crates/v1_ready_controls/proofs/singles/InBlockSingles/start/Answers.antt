use Rattle.std.proofs.Common.{ap, ◌∙◌}
use Rattle.p416_scopes.specs.Seen.{seen_scope}
use Rattle.v1_ready_statements.specs.Statements.{start_ready}
use Rattle.v1_ready_controls.proofs.singles.InBlockSingles.start.Goals as goal

pub returns-clause-statement : goal.returns-clause-statement
returns-clause-statement c = c.in_ok-found.ensures.statement ∙ ap (λ b. start_ready b (seen_scope c.args.around.scope.now) c.args.number) c.self.view_is
