-- That ready l-values are where the l-values of a program are, and that what is read, written and marked there is what is read,
-- written and marked in the frame.
use Rattle.std.specs.Prelude.{◌≡◌, ◌<◌, ℕ, Bool, true, false, length, Option, None, option_map, IfSome}
use Rattle.p416_syntax.specs.declared.program.Syntax16.{Syntax16}
use Rattle.p416_syntax.specs.Tree.{Exp16}
use Rattle.p416_syntax.specs.Names.{Name}
use Rattle.p416_syntax.specs.Scopes.{Scope}
use Rattle.p416_syntax.specs.Declarations.{layouts_of}
use Rattle.p416_syntax.specs.Breaks.{BreaksNone, program_rules}
use Rattle.v1_core.specs.Values.{Value, as_number, number_in}
use Rattle.v1_core.specs.Values as value
use Rattle.v1_core.specs.Frames.{Moment, Reference, within_slice, read, write}
use Rattle.v1_core.specs.Slots.{variable_kinds}
use Rattle.v1_core.specs.Surroundings.{Surroundings}
use Rattle.v1_core.specs.Numbered.{InScope, frame_in}
use Rattle.v1_core.specs.Expressions.{reference_of}
use Rattle.v1_core.specs.HeaderCalls.{set_valid, set_invalid}
use Rattle.v1_core.specs.Cells.{Cells, with_validity}
use Rattle.v1_core.specs.Seats.{Content, some_bits, a_truth, an_error, slot_form, header_form, Seat}
use Rattle.v1_core.specs.PackedValues.{seat_value}
use Rattle.v1_core.specs.Programs.{numbered16}
use Rattle.v1_core.specs.PackedFrames.{IsFrameOf}
use Rattle.v1_core.specs.Scopes.{IsScope}
use Rattle.v1_ready_forms.specs.Named.{seats_in}
use Rattle.v1_ready_blocks.specs.declared.places.Slice.{Slice}
use Rattle.v1_ready_blocks.specs.Places.{seen_slice, put_value}
use Rattle.v1_place_laws.specs.Places.{meant_by}
use Rattle.v1_place_laws.specs.Finding.{IsAt, IsFound}

-- where a ready l-value is what an expression means, finding the l-value gives it, or the same error
abbrev pub PlacesFound : Type 0
PlacesFound =
    (syntax : Syntax16) (c : Cells) (b : Surroundings) (s : Scope) (who : InScope) (m : Moment) (e : Exp16) →
    BreaksNone syntax program_rules → IsFrameOf syntax c → s.layouts ≡ layouts_of syntax.decls →
    m.frame ≡ frame_in who (numbered16 syntax c) → m.stopped ≡ None →
    IfSome (meant_by s (seats_in syntax b.roots who) e) (λ x. IsFound syntax who c x (reference_of b s e m) m)

-- a value that may be written to a slot of a content, or to a slice of it: a number; a truth value or an error as a whole
abbrev pub FitsSlot : Content → Option Slice → Value → Type 0
FitsSlot (some_bits width) slice v = as_number v ≡ number_in v
FitsSlot a_truth slice v = (slice ≡ None) × ((holds : Bool) × (v ≡ value.a_truth holds))
FitsSlot an_error slice v = (slice ≡ None) × ((number : ℕ) × (v ≡ value.an_error number) × (number < 4))

-- writing a single value to an l-value is writing its number to the slot
abbrev pub SlotsWritten : Type 0
SlotsWritten =
    (syntax : Syntax16) (c : Cells) (who : InScope) (r : Reference) (slice : Option Slice) (t : Seat) (of : Content)
    (v : Value) →
    BreaksNone syntax program_rules → IsFrameOf syntax c → IsScope (length (variable_kinds syntax)) who →
    IsAt syntax who r (option_map seen_slice slice) t → t.form ≡ slot_form of → FitsSlot of slice v →
    write r v (frame_in who (numbered16 syntax c))
    ≡ frame_in who (numbered16 syntax (put_value t.start.slot slice v c))

-- what is read of an l-value is what stands at its seat, or the slice of it
abbrev pub PlacesRead : Type 0
PlacesRead =
    (syntax : Syntax16) (c : Cells) (who : InScope) (r : Reference) (slice : Option value.Slice) (t : Seat) →
    IsFrameOf syntax c → IsAt syntax who r slice t →
    read (frame_in who (numbered16 syntax c)) r ≡ within_slice slice (seat_value (layouts_of syntax.decls) c t)

-- `setValid` and `setInvalid` of an l-value that is a header mark it
abbrev pub HeadersMarked : Type 0
HeadersMarked =
    (syntax : Syntax16) (c : Cells) (who : InScope) (r : Reference) (t : Seat) (type : Name) (m : Moment) →
    IsFrameOf syntax c → IsScope (length (variable_kinds syntax)) who → IsAt syntax who r None t →
    t.form ≡ header_form type → m.frame ≡ frame_in who (numbered16 syntax c) →
    ((set_valid r m).frame ≡ frame_in who (numbered16 syntax (with_validity c t.start.header true)))
    × ((set_invalid r m).frame ≡ frame_in who (numbered16 syntax (with_validity c t.start.header false)))
