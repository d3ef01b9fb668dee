-- That what a ready statement does by itself to a packed frame is what the statement of the program does to its frame: from moments
-- that are one (`Shows`) both come to moments that are one.
use Rattle.std.specs.Prelude.{◌≡◌, ◌<◌, ℕ, true, false, length, Option, Some, None, option_map}
use Rattle.p416_syntax.specs.declared.program.Syntax16.{Syntax16}
use Rattle.p416_syntax.specs.Names.{Name}
use Rattle.p416_syntax.specs.Declarations.{layouts_of}
use Rattle.p416_syntax.specs.Breaks.{BreaksNone, program_rules}
use Rattle.v1_core.specs.Values.{Value}
use Rattle.v1_core.specs.Frames as sem
use Rattle.v1_core.specs.Frames.{Reference, put_at, number_put_at}
use Rattle.v1_core.specs.Slots.{FramePart, variable_kinds}
use Rattle.v1_core.specs.Numbered.{InScope}
use Rattle.v1_core.specs.HeaderCalls.{set_valid, set_invalid}
use Rattle.v1_core.specs.Externs.Packets as packets
use Rattle.v1_core.specs.Cells.{Cells, stack_place, stack_size}
use Rattle.v1_core.specs.Seats.{Content, some_bits, slot_form, header_form, stack_form, Seat}
use Rattle.v1_core.specs.PackedValues.{seat_value}
use Rattle.v1_core.specs.Programs.{part_seat}
use Rattle.v1_core.specs.Scopes.{IsScope}
use Rattle.v1_core.specs.declared.node.Which.TheVariants.{Next}
use Rattle.v1_ready_blocks.specs.declared.places.Slice.{Slice}
use Rattle.v1_ready_blocks.specs.declared.places.Range.{Range}
use Rattle.v1_ready_blocks.specs.declared.places.ToldRange.{ToldRange}
use Rattle.v1_ready_blocks.specs.declared.places.RangePlace.{RangePlace}
use Rattle.v1_ready_blocks.specs.declared.places.RangePlace.TheVariants as range_place
use Rattle.v1_ready_blocks.specs.Moments.{Moment, with_cells}
use Rattle.v1_ready_blocks.specs.Places.{seen_slice, put, put_value, copied}
use Rattle.v1_ready_blocks.specs.Packets.{moved_on, extract, emit}
use Rattle.v1_ready_blocks.specs.Statements.{header_made}
use Rattle.v1_parser_laws.specs.Shown.{Shows}
use Rattle.v1_parser_laws.specs.Ranges.{IsRangeOf}
use Rattle.v1_place_laws.specs.Finding.{IsAt}
use Rattle.v1_place_laws.specs.Laws.{FitsSlot}
use Rattle.v1_deed_laws.specs.Forms.{IsParted, OneForm, IsEmitted}

-- writing a single value to an l-value is writing its number to the slot
abbrev pub SlotsPut : Type 0
SlotsPut =
    (syntax : Syntax16) (who : InScope) (r : Reference) (slice : Option Slice) (t : Seat) (of : Content) (v : Value)
    (m : sem.Moment) (n : Moment) →
    BreaksNone syntax program_rules → IsScope (length (variable_kinds syntax)) who →
    IsAt syntax who r (option_map seen_slice slice) t → t.form ≡ slot_form of → FitsSlot of slice v → Shows syntax who m n →
    Shows syntax who (put_at r v m) (with_cells (put_value t.start.slot slice v n.cells) n)

-- so is writing a number that an extern gives
abbrev pub NumbersPut : Type 0
NumbersPut =
    (syntax : Syntax16) (who : InScope) (r : Reference) (slice : Option Slice) (t : Seat) (width number : ℕ)
    (m : sem.Moment) (n : Moment) →
    BreaksNone syntax program_rules → IsScope (length (variable_kinds syntax)) who →
    IsAt syntax who r (option_map seen_slice slice) t → t.form ≡ slot_form (some_bits width) → Shows syntax who m n →
    Shows syntax who (number_put_at r number m) (with_cells (put t.start.slot slice number n.cells) n)

-- a header, a stack or a struct that is written to an l-value is copied to its parts
abbrev pub PartsPut : Type 0
PartsPut =
    (syntax : Syntax16) (who : InScope) (r : Reference) (t : Seat) (q : FramePart) (u : Seat) (to from : Range) (v : Value)
    (m : sem.Moment) (n : Moment) →
    BreaksNone syntax program_rules → IsScope (length (variable_kinds syntax)) who → IsAt syntax who r None t →
    part_seat syntax q ≡ Some u → IsParted t.form → OneForm (layouts_of syntax.decls) t u →
    IsRangeOf (layouts_of syntax.decls) t to → IsRangeOf (layouts_of syntax.decls) u from →
    v ≡ seat_value (layouts_of syntax.decls) n.cells u → Shows syntax who m n →
    Shows syntax who (put_at r v m) (with_cells (copied from to n.cells) n)

-- An extraction fills the header that is found, or too few bits are left; where no stack's `next` is extracted no place moves.
abbrev pub ExtractShows : Type 0
ExtractShows =
    (syntax : Syntax16) (who : InScope) (r : Reference) (t : Seat) (type : Name) (place : RangePlace) (to : Range)
    (m : sem.Moment) (n : Moment) →
    BreaksNone syntax program_rules → IsScope (length (variable_kinds syntax)) who → IsAt syntax who r None t →
    t.form ≡ header_form type → IsRangeOf (layouts_of syntax.decls) t to → ((c : Cells) → moved_on place c ≡ c) →
    Shows syntax who m n → Shows syntax who (packets.extract r None m) (extract place to n)

-- One of `next` moves the place of its stack, which isn't full.
abbrev pub ExtractNextShows : Type 0
ExtractNextShows =
    (syntax : Syntax16) (who : InScope) (r s : Reference) (t u : Seat) (type other : Name) (size : ℕ) (told : ToldRange)
    (to : Range) (m : sem.Moment) (n : Moment) →
    BreaksNone syntax program_rules → IsScope (length (variable_kinds syntax)) who → IsAt syntax who r None t →
    t.form ≡ header_form type → IsRangeOf (layouts_of syntax.decls) t to → IsAt syntax who s None u →
    u.form ≡ stack_form other size → told.which ≡ Next → told.stack ≡ u.start.stack →
    stack_place n.cells u.start.stack < stack_size n.cells u.start.stack → Shows syntax who m n →
    Shows syntax who (packets.extract r (Some s) m) (extract (range_place.Told told) to n)

-- `setValid` and `setInvalid`
abbrev pub HeadersMade : Type 0
HeadersMade =
    (syntax : Syntax16) (who : InScope) (r : Reference) (t : Seat) (type : Name) (to : Range) (m : sem.Moment) (n : Moment) →
    BreaksNone syntax program_rules → IsScope (length (variable_kinds syntax)) who → IsAt syntax who r None t →
    t.form ≡ header_form type → to.header ≡ t.start.header → Shows syntax who m n →
    Shows syntax who (set_valid r m) (header_made true to n) × Shows syntax who (set_invalid r m) (header_made false to n)

-- `p.emit(x)` of a header or a stack
abbrev pub EmitShows : Type 0
EmitShows =
    (syntax : Syntax16) (who : InScope) (q : FramePart) (u : Seat) (from : Range) (v : Value) (m : sem.Moment) (n : Moment) →
    BreaksNone syntax program_rules → part_seat syntax q ≡ Some u → IsEmitted (layouts_of syntax.decls) u.form →
    IsRangeOf (layouts_of syntax.decls) u from → v ≡ seat_value (layouts_of syntax.decls) n.cells u →
    Shows syntax who m n → Shows syntax who (packets.emit v m) (emit from n)
