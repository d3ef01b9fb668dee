-- What finding an l-value gives: a part of a frame with its seat, or the error that there is in place of an element that its
-- stack hasn't (P4_16 1.2, "L-values", "Operations on header stacks").
use Rattle.std.specs.Prelude.{◌≡◌, ℕ, ◌+◌, ◌*◌, if◌then◌else◌, Option, Some, None, option_map}
use Rattle.p416_syntax.specs.declared.program.Syntax16.{Syntax16}
use Rattle.v1_core.specs.declared.parser_error.ParserError.TheVariants.{StackOutOfBounds}
use Rattle.v1_core.specs.Values.{Slice}
use Rattle.v1_core.specs.Frames.{Moment, Reference}
use Rattle.v1_core.specs.Slots.{FramePart}
use Rattle.v1_core.specs.Numbered.{InScope, part_meant}
use Rattle.v1_core.specs.Expressions.{Referred}
use Rattle.v1_core.specs.Cells.{Cells, stack_place, stack_size}
use Rattle.v1_core.specs.Seats.{moved, Seat}
use Rattle.v1_core.specs.Programs.{part_seat}
use Rattle.v1_core.specs.Ready.{element_by, is_past}
use Rattle.v1_ready_forms.specs.Spots.{Told, Spot}
use Rattle.v1_ready_laws.specs.Asked.{stopped_by}
use Rattle.v1_place_laws.specs.Places.{Meant}

-- the same part of the element with a number, where this is that of the element 0 and each element has so many slots
abbrev pub in_element : ℕ → ℕ → Seat → Seat
in_element apart number t = record {
  depth = t.depth;
  form = t.form;
  start = moved t.start (number * apart) number 0;
  owner = option_map (λ h. h + number) t.owner;
}

-- the seat that a spot has in a frame; none where its stack has no such element
abbrev pub seat_now : Cells → Spot → Option Seat
seat_now c x = of x.told
  where
    of : Option Told → Option Seat
    of None = Some x.seat
    of (Some t) =
        if is_past t.which (stack_place c t.stack) (stack_size c t.stack) then None
        else Some (in_element t.apart (element_by t.which (stack_place c t.stack)) x.seat)

-- a reference means a part of the frame that has this seat, and this slice of it
pub record IsAt (syntax : Syntax16) (who : InScope) (r : Reference) (slice : Option Slice) (t : Seat) : Type 0 where
  pub part : FramePart
  pub cuts : r.slice ≡ slice
  pub means : part_meant who r ≡ Some part
  pub seat : part_seat syntax part ≡ Some t

-- an l-value was found in a moment, which stays as it was; or the error stopped that
abbrev pub FoundAt : Syntax16 → InScope → Option Slice → Referred → Moment → Option Seat → Type 0
FoundAt syntax who slice found m None = found.moment ≡ stopped_by StackOutOfBounds m
FoundAt syntax who slice found m (Some t) = (found.moment ≡ m) × IsAt syntax who found.reference slice t

abbrev pub IsFound : Syntax16 → InScope → Cells → Meant → Referred → Moment → Type 0
IsFound syntax who c x found m = FoundAt syntax who x.slice found m (seat_now c x.spot)
