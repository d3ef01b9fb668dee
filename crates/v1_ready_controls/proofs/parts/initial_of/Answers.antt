use Rattle.std.proofs.Common.{option_map}
use Rattle.p416_names.specs.SeenKinds.{seen_kind}
use Rattle.p416_scopes.specs.Seen.{seen_scope}
use Rattle.v1_seats.specs.Seen.{seen_seat}
use Rattle.v1_ready_program.specs.Seen.{seen_seats}
use Rattle.v1_ready_controls.proofs.Asking.{initial_is}
use Rattle.v1_ready_controls.proofs.parts.initial_of.Goals as goal

pub returns-clause-statement : goal.returns-clause-statement
returns-clause-statement c =
    initial_is c.args.callees c.requires.callees (seen_scope c.args.around.scope.now) (seen_seats c.args.around.seats.now) c.args.number (seen_kind c.args.kind) c.args.value.now (option_map seen_seat c.in_ok-seat.seat) _ c.in_ok-found.ensures.statement c.in_ok-seat.ensures
