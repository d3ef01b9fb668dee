-- Where statements write, and what a write does to a packed frame (P4_16 1.2, "L-values", "Assignment statement", "Operations
-- on headers", "Operations on header stacks", "Default values"). A write to a field of an invalid header does nothing.
use Rattle.std.specs.Prelude.{ℕ, zero, suc, ◌+◌, ◌*◌, ◌%◌, ◌^◌, min, false, if◌then◌else◌, slice_index, Option, Some, None}
use Rattle.v1_core.specs.Values.{Value, as_number, spliced}
use Rattle.v1_core.specs.Values as values
use Rattle.v1_core.specs.Cells.{Cells, slot_value, with_slot, header_valid, with_validity, stack_place, stack_size, with_stack_place}
use Rattle.v1_core.specs.declared.node.Element.{Element}
use Rattle.v1_core.specs.Ready.{element_by, is_past, part_number}
use Rattle.v1_ready_blocks.specs.declared.places.Slice.{Slice}
use Rattle.v1_ready_blocks.specs.declared.places.Target.{Target}
use Rattle.v1_ready_blocks.specs.declared.places.SlotPlace.{SlotPlace}
use Rattle.v1_ready_blocks.specs.declared.places.SlotPlace.TheVariants as slot_place
use Rattle.v1_ready_blocks.specs.declared.places.Range.{Range}
use Rattle.v1_ready_blocks.specs.declared.places.ToldRange.{ToldRange}
use Rattle.v1_ready_blocks.specs.declared.places.RangePlace.{RangePlace}
use Rattle.v1_ready_blocks.specs.declared.places.RangePlace.TheVariants as range_place

-- where that is, also where the place of a stack tells it; none where the stack has no such element

abbrev pub told_slot : Cells → Element → Option ℕ
told_slot c e = if is_past e.which (stack_place c e.stack) (stack_size c e.stack) then None else Some (part_number c e)

abbrev pub slot_at : Cells → SlotPlace → Option ℕ
slot_at c (slot_place.Fixed slot) = Some slot
slot_at c (slot_place.Told e) = told_slot c e

-- the parts of the element with a number, where these are those of the element 0
abbrev pub element_range : Range → ℕ → Range
element_range r number =
    record r { slot = r.slot + number * r.slots; header = r.header + number * r.headers }

abbrev pub told_range : Cells → ToldRange → Option Range
told_range c t =
    if is_past t.which (stack_place c t.stack) (stack_size c t.stack) then None
    else Some (element_range t.first (element_by t.which (stack_place c t.stack)))

abbrev pub range_at : Cells → RangePlace → Option Range
range_at c (range_place.Fixed r) = Some r
range_at c (range_place.Told t) = told_range c t

-- single values

abbrev pub slot_width : Cells → ℕ → ℕ
slot_width c slot = slice_index c.layout.widths slot

abbrev pub seen_slice : Slice → values.Slice
seen_slice s = record { low = s.low; width = s.width }

-- a number, or an old one with the number in a slice of it
abbrev pub around : Option Slice → ℕ → ℕ → ℕ
around None old n = n
around (Some s) old n = spliced (seen_slice s) old n

-- a number is cut or extended to the width of its slot
abbrev pub put : ℕ → Option Slice → ℕ → Cells → Cells
put slot slice n c = with_slot c slot (around slice (slot_value c slot) n % 2 ^ slot_width c slot)

abbrev pub put_value : ℕ → Option Slice → Value → Cells → Cells
put_value slot slice v c = put slot slice (as_number v) c

abbrev pub put_at : Target → ℕ → Cells → Cells
put_at t n c = put t.slot t.slice n c

-- headers, stacks and structs: from one frame to another, and within one frame

-- a number from a slot, and the place of a stack, which is at most the size of its stack

abbrev pub number_taken : ℕ → ℕ → Cells → Cells → Cells
number_taken from to source c = put to None (slot_value source from) c

abbrev pub place_taken : ℕ → ℕ → Cells → Cells → Cells
place_taken from to source c = with_stack_place c to (min (stack_place source from) (stack_size c to))

-- so many parts one after another, of which each is taken from one place to another

abbrev pub all_taken : (ℕ → ℕ → Cells → Cells → Cells) → ℕ → ℕ → ℕ → Cells → Cells → Cells
all_taken take zero from to source c = c
all_taken take (suc n) from to source c = all_taken take n (1 + from) (1 + to) source (take from to source c)

abbrev pub all_copied : (ℕ → ℕ → Cells → Cells → Cells) → ℕ → ℕ → ℕ → Cells → Cells
all_copied take zero from to c = c
all_copied take (suc n) from to c = all_copied take n (1 + from) (1 + to) (take from to c c)

abbrev pub validity_taken : ℕ → ℕ → Cells → Cells → Cells
validity_taken from to source c = with_validity c to (header_valid source from)

-- The parts of a range become those of another one: first whether headers are valid, then numbers, then the places of stacks.
abbrev pub taken : Range → Range → Cells → Cells → Cells
taken from to source c =
    all_taken place_taken (min from.stacks to.stacks) from.stack to.stack source
    (all_taken number_taken (min from.slots to.slots) from.slot to.slot source
    (all_taken validity_taken (min from.headers to.headers) from.header to.header source c))

-- within one frame, part after part; no two ranges overlap, unless they are one
abbrev pub copied : Range → Range → Cells → Cells
copied from to c =
    all_copied place_taken (min from.stacks to.stacks) from.stack to.stack
    (all_copied number_taken (min from.slots to.slots) from.slot to.slot
    (all_copied validity_taken (min from.headers to.headers) from.header to.header c))

-- all parts become invalid, 0, and at place 0

abbrev pub all_made : (ℕ → Cells → Cells) → ℕ → ℕ → Cells → Cells
all_made make zero from c = c
all_made make (suc n) from c = all_made make n (1 + from) (make from c)

abbrev pub made_invalid : ℕ → Cells → Cells
made_invalid header c = with_validity c header false

abbrev pub made_zero : ℕ → Cells → Cells
made_zero slot c = with_slot c slot 0

abbrev pub made_first : ℕ → Cells → Cells
made_first stack c = with_stack_place c stack 0

abbrev pub emptied : Range → Cells → Cells
emptied r c =
    all_made made_first r.stacks r.stack
    (all_made made_zero r.slots r.slot (all_made made_invalid r.headers r.header c))
