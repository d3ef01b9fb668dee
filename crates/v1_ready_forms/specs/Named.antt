-- Where the names in scope stand in the frames of a program: the variables of the statements with the parameters of the action
-- that runs, then the parameters of the block, then the variables of the block (P4_16 1.2, "Name resolution"; `v1model.p4`,
-- the parameters of the blocks).
use Rattle.std.specs.Prelude.{if◌then◌else◌, List, [], ◌∷◌, ◌++◌, map, Option, None}
use Rattle.std.specs.Str.{bytes_eq}
use Rattle.p416_syntax.specs.declared.program.Syntax16.{Syntax16}
use Rattle.p416_syntax.specs.Names.{Name}
use Rattle.v1_core.specs.Frames.{Owner, of_headers, of_metadata, of_standard, of_variables, of_inner, of_nothing}
use Rattle.v1_core.specs.Surroundings.{Root}
use Rattle.v1_core.specs.Slots.{the_headers, the_metadata, the_standard, the_variable}
use Rattle.v1_core.specs.Numbered.{Variable, InScope}
use Rattle.v1_core.specs.Seats.{Seat}
use Rattle.v1_core.specs.Programs.{owner_seat}

-- a name, and the seat of what it means; none where that is no value of the frame
pub record NamedSeat : Type 0 where
  pub called : Name
  pub seat : Option Seat

abbrev pub named_seat : Name → Option Seat → NamedSeat
named_seat called seat = record { called = called; seat = seat }

-- the seat of a name, the innermost first
abbrev pub seat_of_name : List NamedSeat → Name → Option Seat
seat_of_name [] text = None
seat_of_name (x ∷ seats) text = if bytes_eq x.called text then x.seat else seat_of_name seats text

-- the names of a program

abbrev pub root_seat : Syntax16 → Owner → Option Seat
root_seat syntax of_headers = owner_seat syntax the_headers
root_seat syntax of_metadata = owner_seat syntax the_metadata
root_seat syntax of_standard = owner_seat syntax the_standard
root_seat syntax of_variables = None
root_seat syntax of_inner = None
root_seat syntax of_nothing = None

-- a parameter of a block; that of the packet is no value
abbrev pub seat_of_root : Syntax16 → Root → NamedSeat
seat_of_root syntax r = named_seat r.called (root_seat syntax r.owner)

abbrev pub seat_of_variable : Syntax16 → Variable → NamedSeat
seat_of_variable syntax v = named_seat v.called (owner_seat syntax (the_variable v.number))

-- all names of a block and of those that are in scope there, the innermost first
abbrev pub seats_in : Syntax16 → List Root → InScope → List NamedSeat
seats_in syntax roots who =
    map (seat_of_variable syntax) who.inner ++ map (seat_of_root syntax) roots
    ++ map (seat_of_variable syntax) who.variables
