use Rattle.std.proofs.Common.{◌∙◌}
use Rattle.p416_scopes.specs.Seen.{seen_scope}
use Rattle.v1_ready_program.specs.Seen.{seen_seats}
use Rattle.v1_ready_operands.proofs.Naming.{let_go_at}
use Rattle.v1_ready_calls.proofs.calls.let_go.Goals as goal

pub returns-clause-statement : goal.returns-clause-statement
returns-clause-statement c =
    c.in_ok-statement.ensures.statement ∙ let_go_at c.args.callees c.requires.callees (seen_scope c.args.around.scope.now) (seen_seats c.args.around.seats.now) c.args.value.now
