-- Where an l-value stands in the frames of a program, and which bits of it are meant, where it is a slice (P4_16 1.2,
-- "L-values", "Operations on headers", "Operations on header stacks", "Operations on struct types").
use Rattle.std.specs.Prelude.{◌-◌, List, Option, Some, None}
use Rattle.p416_syntax.specs.Tree.{Exp16, name, member, index, slice}
use Rattle.p416_syntax.specs.Names.{Name}
use Rattle.p416_syntax.specs.Kinds.{Kind, stack}
use Rattle.p416_syntax.specs.Scopes.{Layout, Scope}
use Rattle.p416_syntax.specs.Expressions.{kind_of}
use Rattle.v1_core.specs.Values.{to_member, to_element, Slice}
use Rattle.v1_core.specs.Frames.{cut_to}
use Rattle.v1_core.specs.Expressions.{slice_of}
use Rattle.v1_core.specs.Seats.{some_bits, Form, slot_form, header_form, stack_form, struct_form, Start, behind_seat, Seat}
use Rattle.v1_ready_forms.specs.Named.{NamedSeat, seat_of_name}
use Rattle.v1_ready_forms.specs.Ways.{which_of}
use Rattle.v1_ready_forms.specs.Spots.{Told, Spot, spot_with, spot_behind, told_spot, element_with}
use Rattle.v1_ready_blocks.specs.declared.places.SlotPlace.{SlotPlace}
use Rattle.v1_ready_blocks.specs.declared.places.SlotPlace.TheVariants as slot_place
use Rattle.v1_ready_blocks.specs.declared.places.Range.{Range}
use Rattle.v1_ready_blocks.specs.declared.places.RangePlace.{RangePlace}
use Rattle.v1_ready_blocks.specs.declared.places.RangePlace.TheVariants as range_place

-- a spot, and the slice of it that is meant
pub record Meant : Type 0 where
  pub spot : Spot
  pub slice : Option Slice

abbrev pub meant : Option Slice → Option Spot → Option Meant
meant cut None = None
meant cut (Some x) = Some (record { spot = x; slice = cut })

-- a part of what is meant; a slice has none
abbrev pub behind_meant : (Spot → Option Spot) → Option Meant → Option Meant
behind_meant further None = None
behind_meant further (Some x) = of x.slice
  where
    of : Option Slice → Option Meant
    of None = meant None (further x.spot)
    of (Some s) = None

-- a slice of what is meant, also of a slice
abbrev pub slice_meant : Slice → Option Meant → Option Meant
slice_meant s None = None
slice_meant s (Some x) = Some (record { spot = x.spot; slice = Some (cut_to s x.slice) })

-- the member with this word of what is meant, which is of a kind
abbrev pub member_meant : List Layout → Kind → Name → Option Meant → Option Meant
member_meant types (stack type size) word x = behind_meant (told_spot types (which_of word)) x
member_meant types _ word x = behind_meant (spot_behind types (to_member word)) x

-- what an l-value means; none where an expression is no l-value
abbrev pub meant_by : Scope → List NamedSeat → Exp16 → Option Meant
meant_by s seats (name text) = meant None (spot_with None (seat_of_name seats text))
meant_by s seats (member e word) = member_meant s.layouts (kind_of s e) word (meant_by s seats e)
meant_by s seats (index e at) = behind_meant (spot_behind s.layouts (to_element at.value)) (meant_by s seats e)
meant_by s seats (slice e high low) = slice_meant (slice_of high low) (meant_by s seats e)
meant_by s seats _ = None

-- the places that statements write to

-- of a single value: its slot, or that of a field of the element that the place of a stack tells
abbrev pub slot_place_of : Spot → Option SlotPlace
slot_place_of x = of x.seat.form x.told
  where
    of : Form → Option Told → Option SlotPlace
    of (slot_form content) None = Some (slot_place.Fixed x.seat.start.slot)
    of (slot_form (some_bits width)) (Some t) = Some (slot_place.Told (element_with t x.seat.start.slot t.apart))
    of _ _ = None

-- the parts from one place up to another
abbrev pub range_between : Start → Start → Range
range_between b end = record {
  slot = b.slot;
  slots = end.slot - b.slot;
  header = b.header;
  headers = end.header - b.header;
  stack = b.stack;
  stacks = end.stack - b.stack;
}

abbrev pub range_of : List Layout → Seat → Range
range_of types s = range_between s.start (behind_seat types s)

-- of a header, a stack or a struct: its parts, or those of the element that the place of a stack tells
abbrev pub range_place_of : List Layout → Spot → Option RangePlace
range_place_of types x = of x.seat.form x.told
  where
    of : Form → Option Told → Option RangePlace
    of (header_form type) None = Some (range_place.Fixed (range_of types x.seat))
    of (stack_form type size) None = Some (range_place.Fixed (range_of types x.seat))
    of (struct_form type) None = Some (range_place.Fixed (range_of types x.seat))
    of (header_form type) (Some t) =
        Some (range_place.Told (record { which = t.which; stack = t.stack; first = range_of types x.seat }))
    of _ _ = None
