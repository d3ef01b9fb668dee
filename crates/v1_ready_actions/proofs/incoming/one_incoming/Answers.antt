use Rattle.std.proofs.Common.{◌∙◌}
use Rattle.name_numbers.specs.Names.{find_name}
use Rattle.p416_scopes.specs.Seen.{seen_scope}
use Rattle.p416_names.specs.SeenKinds.{seen_kind}
use Rattle.std.specs.Prelude.{option_map}
use Rattle.v1_seats.specs.Seen.{seen_seat}
use Rattle.v1_ready_program.specs.Seen.{seen_seats}
use Rattle.v1_ready_operands.specs.Callees.{around_of}
use Rattle.v1_ready_operands.specs.Seen.{seen_incoming}
use Rattle.v1_ready_operands.proofs.Chaining.{one_in}
use Rattle.v1_ready_operands.proofs.Naming.{tables_found}
use Rattle.v1_ready_actions.proofs.incoming.one_incoming.Goals as goal

pub returns-clause-incoming : goal.returns-clause-incoming
returns-clause-incoming c =
    c.in_ok-found.ensures.incoming
    ∙ one_in (around_of c.args.callees) (seen_scope c.args.around.scope.now) (seen_seats c.args.around.seats.now) (find_name c.args.callees.tables.now) c.args.passed.now.number c.args.passed.now.parameter.now c.args.passed.now.argument
    (option_map seen_seat c.in_ok-seat.seat) (seen_kind c.kind_of_type-kind.result) c.is_out-out.result (seen_incoming c.args.nodes.now c.args.rest)
    (tables_found c.args.callees c.requires.callees) c.in_ok-seat.ensures c.kind_of_type-kind.ensures c.is_out-out.ensures
