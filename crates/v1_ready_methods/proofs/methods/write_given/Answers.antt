use Rattle.std.proofs.Common.{option_map, ap, ◌∙◌}
use Rattle.p416_syntax.specs.Uses.{arguments_of}
use Rattle.p416_scopes.specs.Seen.{seen_scope}
use Rattle.v1_ready_blocks.specs.Statements.{does}
use Rattle.v1_ready_program.specs.Seen.{seen_seats}
use Rattle.v1_ready_operands.proofs.Naming.{write_at}
use Rattle.v1_ready_methods.proofs.methods.write_given.Goals as goal

pub returns-clause-statement : goal.returns-clause-statement
returns-clause-statement c =
    let s = seen_scope c.args.around.scope.now in
    let seats = seen_seats c.args.around.seats.now in
    c.in_ok-statement.ensures.statement ∙ ap (option_map does) (write_at c.args.callees c.requires.callees s seats c.args.object (arguments_of c.args.given.now))
