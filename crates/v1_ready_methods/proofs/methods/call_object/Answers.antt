use Rattle.std.proofs.Common.{ℕ, option_map, ap, ◌∙◌}
use Rattle.p416_names.specs.SeenKinds.{seen_object}
use Rattle.p416_syntax.specs.Uses.{arguments_of}
use Rattle.p416_scopes.specs.Seen.{seen_scope}
use Rattle.v1_ready_blocks.specs.Statements.{does}
use Rattle.v1_ready_program.specs.Seen.{seen_seats}
use Rattle.v1_ready_statements.specs.Called.{object_deed}
use Rattle.v1_ready_operands.specs.Callees.{around_of}
use Rattle.v1_ready_methods.proofs.methods.call_object.Goals as goal

pub returns-clause-statement : goal.returns-clause-statement
returns-clause-statement c =
    let b = around_of c.args.callees in
    let s = seen_scope c.args.around.scope.now in
    let seats = seen_seats c.args.around.seats.now in
    c.in_ok-statement.ensures.statement
    ∙ ap (λ (n : ℕ). option_map does (object_deed b s seats (seen_object c.args.kind) c.args.word.now n (arguments_of c.args.given.now))) c.in_ok-object.ensures
