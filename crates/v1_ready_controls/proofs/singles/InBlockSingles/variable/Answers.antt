use Rattle.std.proofs.Common.{ap, ◌∙◌}
use Rattle.v1_ready_statements.specs.Around.{variable_seat}
use Rattle.v1_ready_controls.proofs.singles.InBlockSingles.variable.Goals as goal

pub returns : goal.returns
returns c = c.in_ok-found.ensures ∙ ap (λ b. variable_seat b c.args.number) c.self.view_is
