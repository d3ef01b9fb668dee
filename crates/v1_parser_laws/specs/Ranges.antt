-- The parts of a value, from the first on, and the value with which a new frame begins (this project's own).
use Rattle.std.specs.Prelude.{◌≡◌, ◌+◌, ◌^◌, ◌<◌, List, [], ◌∷◌, length, slice_index, Some, codes}
use Rattle.p416_syntax.specs.declared.program.Syntax16.{Syntax16}
use Rattle.p416_syntax.specs.Scopes.{Layout}
use Rattle.p416_syntax.specs.Declarations.{layouts_of}
use Rattle.p416_syntax.specs.Main.{headers_kind}
use Rattle.v1_core.specs.declared.parser_error.ParserError.{ParserError}
use Rattle.v1_core.specs.Values.{to_member}
use Rattle.v1_core.specs.Frames as sem
use Rattle.v1_core.specs.Frames.{error_number}
use Rattle.v1_core.specs.Slots.{PartOwner, the_standard, FramePart, part_with}
use Rattle.v1_core.specs.Surroundings.{Setting}
use Rattle.v1_core.specs.Numbered.{InScope, part_value, with_part_value, new_numbered}
use Rattle.v1_core.specs.Parsing as parsing
use Rattle.v1_core.specs.Parsing.{without_headers}
use Rattle.v1_core.specs.Cells.{Cells}
use Rattle.v1_core.specs.Seats.{an_error, slot_form, form_of, Seat, seat, behind_seat}
use Rattle.v1_core.specs.Programs.{layout16, first_start, owner_seat, part_seat, numbered16}
use Rattle.v1_core.specs.PackedFrames.{IsFrameOf}
use Rattle.v1_ready_blocks.specs.declared.places.Range.{Range}
use Rattle.v1_ready_blocks.specs.Places.{emptied}
use Rattle.v1_ready_blocks.specs.Moments.{Moment}
use Rattle.v1_ready_states.specs.States as ready
use Rattle.v1_ready_states.specs.States.{with_headers_empty}
use Rattle.v1_parser_laws.specs.Shown.{Shows}

-- the parts of what stands at a seat
pub record IsRangeOf (types : List Layout) (t : Seat) (r : Range) : Type 0 where
  pub slot : r.slot ≡ t.start.slot
  pub slots : r.slot + r.slots ≡ (behind_seat types t).slot
  pub header : r.header ≡ t.start.header
  pub headers : r.header + r.headers ≡ (behind_seat types t).header
  pub stack : r.stack ≡ t.start.stack
  pub stacks : r.stack + r.stacks ≡ (behind_seat types t).stack

-- the whole value of an owner
abbrev pub all_of : PartOwner → FramePart
all_of owner = part_with owner []

-- the frame with the value there with which a new frame begins
pub record IsBegun (syntax : Syntax16) (c d : Cells) (owner : PartOwner) : Type 0 where
  pub is : part_value (numbered16 syntax d) (all_of owner) ≡ part_value (new_numbered syntax) (all_of owner)
  pub value : with_part_value (numbered16 syntax c) (all_of owner) (part_value (new_numbered syntax) (all_of owner)) ≡ numbered16 syntax d
  pub frame : IsFrameOf syntax d

-- emptying the parts of a value makes it the one with which a new frame begins
abbrev pub EmptiedBegins : Type 0
EmptiedBegins =
    (syntax : Syntax16) (c : Cells) (owner : PartOwner) (t : Seat) (r : Range) → IsFrameOf syntax c →
    owner_seat syntax owner ≡ Some t → IsRangeOf (layouts_of syntax.decls) t r → IsBegun syntax c (emptied r c) owner

-- so emptying the headers does what beginning to parse does

abbrev pub headers_seat : Syntax16 → Seat
headers_seat syntax = seat (length (layouts_of syntax.decls)) (form_of (headers_kind syntax)) first_start

abbrev pub EmptiedHeaders : Type 0
EmptiedHeaders =
    (c : Setting) (who : InScope) (r : Range) (m : sem.Moment) (n : Moment) →
    IsRangeOf (layouts_of c.syntax.decls) (headers_seat c.syntax) r → Shows c.syntax who m n →
    Shows c.syntax who (without_headers c m) (with_headers_empty r n)

-- and a number in the slot of `parser_error` does what putting an error there does

abbrev pub error_part : FramePart
error_part = part_with the_standard (to_member (codes "parser_error") ∷ [])

abbrev pub ErrorStands : Type 0
ErrorStands =
    (c : Setting) (who : InScope) (t : Seat) (e : ParserError) (m : sem.Moment) (n : Moment) →
    part_seat c.syntax error_part ≡ Some t → t.form ≡ slot_form an_error →
    error_number e < 2 ^ slice_index (layout16 c.syntax).widths t.start.slot → Shows c.syntax who m n →
    Shows c.syntax who (parsing.with_error (Some e) m) (ready.with_error t.start.slot (Some e) n)
