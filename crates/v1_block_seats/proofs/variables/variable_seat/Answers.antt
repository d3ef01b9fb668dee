use Rattle.std.specs.Prelude.{option_map}
use Rattle.v1_seats.specs.Seen.{seen_seat}
use Rattle.v1_block_seats.proofs.Seating.{variable_at}
use Rattle.v1_block_seats.proofs.variables.variable_seat.Goals as goal

pub returns : goal.returns
returns c =
    variable_at c.args.syntax.now c.args.seats.now c.args.number c.in_ok-place.place (option_map seen_seat c.seat_with.result) c.requires c.in_ok-place.ensures c.seat_with.ensures
