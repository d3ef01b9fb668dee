use Rattle.std.proofs.Common.{option_map, ap, ◌∙◌}
use Rattle.p416_syntax.specs.Kinds.{Kind}
use Rattle.p416_syntax.specs.Uses.{arguments_of}
use Rattle.p416_scopes.specs.Seen.{seen_scope}
use Rattle.v1_ready_blocks.specs.Statements.{does}
use Rattle.v1_ready_program.specs.Seen.{seen_seats}
use Rattle.v1_ready_statements.specs.Called.{method_deed}
use Rattle.v1_ready_operands.specs.Callees.{around_of}
use Rattle.v1_ready_calls.proofs.calls.call_member.Goals as goal

pub returns-clause-statement : goal.returns-clause-statement
returns-clause-statement c =
    let b = around_of c.args.callees in
    let s = seen_scope c.args.around.scope.now in
    let seats = seen_seats c.args.around.seats.now in
    c.in_ok-statement.ensures.statement ∙ ap (λ (k : Kind). option_map does (method_deed b s seats k c.args.owner.now c.args.word.now (arguments_of c.args.given.now))) c.in_ok-kind.ensures
