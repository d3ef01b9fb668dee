-- The block that is wanted, and names by the seats of all values of a frame, in order.
use Rattle.std.specs.Prelude.{ℕ, ◌+◌, Bool, List, Option, None, option_map, slice_get}
use Rattle.p416_syntax.specs.declared.program.Decl16.{Decl16}
use Rattle.v1_core.specs.Frames.{Owner, of_headers, of_metadata, of_standard, of_variables, of_inner, of_nothing}
use Rattle.v1_core.specs.Surroundings.{Root}
use Rattle.v1_core.specs.Numbered.{Variable}
use Rattle.v1_core.specs.Seats as seats
use Rattle.v1_seats.specs.declared.seat.Seat.{Seat}
use Rattle.v1_seats.specs.Seen.{seen_seat}
use Rattle.v1_ready_forms.specs.Named.{NamedSeat, named_seat}
use Rattle.v1_block_laws.specs.Variables.{is_parser, is_control}
use Rattle.v1_block_seats.specs.declared.numbers.Variable.{Variable as CodeVariable}
use Rattle.v1_block_seats.specs.Seen.{seen_variable}
use Rattle.v1_block_seats.specs.declared.counting.Wanted.{Wanted}
use Rattle.v1_block_seats.specs.declared.counting.Wanted.TheVariants as wanted

abbrev pub test_of : Wanted → Decl16 → Bool
test_of (wanted.Parser name) = is_parser name.now
test_of (wanted.Control name) = is_control name.now

abbrev pub seat_with : List Seat → ℕ → Option seats.Seat
seat_with all number = option_map seen_seat (slice_get all number)

abbrev pub root_with : List Seat → Owner → Option seats.Seat
root_with all of_headers = seat_with all 0
root_with all of_metadata = seat_with all 1
root_with all of_standard = seat_with all 2
root_with all of_variables = None
root_with all of_inner = None
root_with all of_nothing = None

abbrev pub named_root : List Seat → Root → NamedSeat
named_root all r = named_seat r.called (root_with all r.owner)

abbrev pub named_variable : List Seat → Variable → NamedSeat
named_variable all v = named_seat v.called (seat_with all (3 + v.number))

abbrev pub named_own : List Seat → CodeVariable → NamedSeat
named_own all v = named_variable all (seen_variable v)
