-- Headers that are extracted and emitted (`core.p4`, `packet_in.extract` and `packet_out.emit`; P4_16 1.2, "Data extraction",
-- "Deparsing").
use Rattle.std.specs.Prelude.{ℕ, zero, suc, ◌+◌, ◌*◌, ◌/◌, min, Bool, true, nat_lt, if◌then◌else◌, List, [], ◌++◌, length, take, drop}
use Rattle.p4x_bits.specs.BitLists.{num, bits, octet_bits}
use Rattle.v1_core.specs.declared.parser_error.ParserError.TheVariants.{PacketTooShort}
use Rattle.v1_core.specs.Cells.{Cells, slot_value, with_slot, header_valid, with_validity, stack_place, stack_size, with_stack_place}
use Rattle.v1_core.specs.declared.node.Which.{Which}
use Rattle.v1_core.specs.declared.node.Which.TheVariants.{Next, Last}
use Rattle.v1_ready_blocks.specs.declared.places.Range.{Range}
use Rattle.v1_ready_blocks.specs.declared.places.RangePlace.{RangePlace}
use Rattle.v1_ready_blocks.specs.declared.places.RangePlace.TheVariants as range_place
use Rattle.v1_ready_blocks.specs.Moments.{Moment, with_cells, raised}
use Rattle.v1_ready_blocks.specs.Places.{slot_width}
use Rattle.v1_ready_blocks.specs.Stacks.{element_of}

-- extraction

-- the bits of so many slots
abbrev pub total_width : Cells → ℕ → ℕ → ℕ
total_width c zero slot = 0
total_width c (suc n) slot = slot_width c slot + total_width c n (1 + slot)

-- so many slots get the numbers of bits that stand one after another
abbrev pub filled : ℕ → ℕ → List Bool → Cells → Cells
filled zero slot rest c = c
filled (suc n) slot rest c =
    filled n (1 + slot) (drop (slot_width c slot) rest)
    (with_slot c slot (num (take (slot_width c slot) rest)))

-- at least so many bits are left
abbrev pub has_bits : Moment → ℕ → Bool
has_bits m count = nat_lt count (8 * length m.unparsed + 1)

-- the next bits become the fields of a header, and it is valid, also where it was
abbrev pub extracted : Range → Moment → Moment
extracted r m =
    let c = filled r.slots r.slot (octet_bits m.unparsed) (with_validity m.cells r.header true) in
    record m { cells = c; unparsed = drop (total_width m.cells r.slots r.slot / 8) m.unparsed }

-- an extraction of `next` moves the place of its stack by one, at most to the end
abbrev pub moved_on : RangePlace → Cells → Cells
moved_on (range_place.Fixed r) c = c
moved_on (range_place.Told t) c = of t.which
  where
    of : Which → Cells
    of Next = with_stack_place c t.stack (min (stack_place c t.stack + 1) (stack_size c t.stack))
    of Last = c

abbrev pub moved : RangePlace → Moment → Moment
moved place m = with_cells (moved_on place m.cells) m

-- `p.extract(h)`, where the header is found. Where too few bits are left nothing moves.
abbrev pub extract : RangePlace → Range → Moment → Moment
extract place r m =
    if has_bits m (total_width m.cells r.slots r.slot) then moved place (extracted r m) else raised PacketTooShort m

-- emission

-- the bits of so many slots
abbrev pub slot_bits : Cells → ℕ → ℕ → List Bool
slot_bits c zero slot = []
slot_bits c (suc n) slot = bits (slot_width c slot) (slot_value c slot) ++ slot_bits c n (1 + slot)

-- the bits of a header if it is valid
abbrev pub header_bits : Cells → Range → List Bool
header_bits c r = if header_valid c r.header then slot_bits c r.slots r.slot else []

-- the bits of so many elements from one on
abbrev pub element_bits : Cells → Range → ℕ → ℕ → List Bool
element_bits c r from zero = []
element_bits c r from (suc n) = header_bits c (element_of r from) ++ element_bits c r (1 + from) n

-- `p.emit(x)`: a header, or all elements of a stack in order
abbrev pub emit : Range → Moment → Moment
emit r m = record m { emitted = m.emitted ++ element_bits m.cells r 0 r.headers }
