-- Which names, seats and spots those of code are.
use Rattle.std.specs.Prelude.{ℕ, ◌≤◌, List, [], ◌∷◌, length, Option, option_map, slice_get, option_and_then}
use Rattle.node_lists.specs.Trees.{KeepsPlaces}
use Rattle.p416_syntax.specs.Names.{Name}
use Rattle.v1_core.specs.Seats as seats
use Rattle.v1_seats.specs.declared.seat.Seat.{Seat}
use Rattle.v1_seats.specs.Seen.{seen_seat}
use Rattle.v1_core.specs.Ready.{Ready}
use Rattle.v1_core.specs.Nodes.{nothing}
use Rattle.v1_ready_forms.specs.Named.{NamedSeat, named_seat}
use Rattle.v1_ready_forms.specs.Spots as spots
use Rattle.v1_ready_program.specs.declared.names.NamedSeats.{NamedSeats}
use Rattle.v1_ready_program.specs.declared.spots.Told.{Told}
use Rattle.v1_ready_program.specs.declared.spots.Spot.{Spot}

-- these names, the last one first, and behind them those further out
abbrev pub seats_named : List Name → List (Option Seat) → List NamedSeat → List NamedSeat
seats_named [] given outer = outer
seats_named (name ∷ names) [] outer = outer
seats_named (name ∷ names) (seat ∷ given) outer =
    seats_named names given (named_seat name (option_map seen_seat seat) ∷ outer)

abbrev pub seen_seats : NamedSeats → List NamedSeat
seen_seats s = seats_named s.names s.seats.items []

-- the seat at a place
abbrev pub some_seen : Option Seat → Option seats.Seat
some_seen seat = option_map seen_seat seat

abbrev pub seat_at : List (Option Seat) → ℕ → Option seats.Seat
seat_at given place = option_and_then some_seen (slice_get given place)

abbrev pub seen_told : Told → spots.Told
seen_told t = record { which = t.which; stack = t.stack; apart = t.apart }

abbrev pub seen_spot : Spot → spots.Spot
seen_spot x = record { seat = seen_seat x.seat; told = option_map seen_told x.told }

-- the earlier expressions keep their places
pub record Keeps (old new : List Ready) : Type 0 where
  pub places : KeepsPlaces nothing old new
  pub grows : length old ≤ length new
