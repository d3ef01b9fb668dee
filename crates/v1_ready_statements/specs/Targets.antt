-- What statements write to: slots and slices of them, and the parts of headers, stacks and structs (P4_16 1.2, "L-values").
use Rattle.std.specs.Prelude.{List, Option, Some, None, option_map, option_and_then}
use Rattle.p416_syntax.specs.Tree.{Exp16}
use Rattle.p416_syntax.specs.Scopes.{Layout, Scope}
use Rattle.v1_core.specs.Values as values
use Rattle.v1_core.specs.Seats.{Form, slot_form}
use Rattle.v1_ready_forms.specs.Named.{NamedSeat}
use Rattle.v1_ready_forms.specs.Spots.{Told}
use Rattle.v1_ready_blocks.specs.declared.places.Slice.{Slice}
use Rattle.v1_ready_blocks.specs.declared.places.Target.{Target}
use Rattle.v1_ready_blocks.specs.declared.places.Range.{Range}
use Rattle.v1_ready_blocks.specs.declared.places.RangePlace.{RangePlace}
use Rattle.v1_ready_blocks.specs.declared.places.RangePlace.TheVariants as range_place
use Rattle.v1_place_laws.specs.Places.{Meant, meant_by, range_place_of}

abbrev pub ready_slice : values.Slice → Slice
ready_slice s = record { low = s.low; width = s.width }

-- a single value that no stack tells, or a slice of it
abbrev pub target_of : Meant → Option Target
target_of x = of x.spot.seat.form x.spot.told
  where
    of : Form → Option Told → Option Target
    of (slot_form content) None =
        Some (record { slot = x.spot.seat.start.slot; slice = option_map ready_slice x.slice })
    of _ _ = None

-- the parts of what no stack tells
abbrev pub fixed_range : RangePlace → Option Range
fixed_range (range_place.Fixed r) = Some r
fixed_range (range_place.Told t) = None

-- what an l-value means: a single value, or a header, a stack or a struct

abbrev pub target_given : Scope → List NamedSeat → Exp16 → Option Target
target_given s seats e = option_and_then target_of (meant_by s seats e)

abbrev pub parts_meant : List Layout → Meant → Option RangePlace
parts_meant types x = of x.slice
  where
    of : Option values.Slice → Option RangePlace
    of None = range_place_of types x.spot
    of (Some cut) = None

abbrev pub range_given : Scope → List NamedSeat → Exp16 → Option RangePlace
range_given s seats e = option_and_then (parts_meant s.layouts) (meant_by s seats e)
