-- Which seat of a frame a seat of code is.
use Rattle.p416_names.specs.SeenKinds.{seen_kind}
use Rattle.v1_core.specs.Seats as seats
use Rattle.v1_core.specs.Seats.{form_of}
use Rattle.v1_seats.specs.declared.start.Start.{Start}
use Rattle.v1_seats.specs.declared.seat.Seat.{Seat}

abbrev pub seen_start : Start → seats.Start
seen_start s = record { slot = s.slot; header = s.header; stack = s.stack }

abbrev pub seen_seat : Seat → seats.Seat
seen_seat s = record { depth = s.depth; form = form_of (seen_kind s.kind); start = seen_start s.start; owner = s.owner }
