-- Where a part of a frame stands, also one in an element that the place of a stack tells (this project's own).
use Rattle.std.specs.Prelude.{ℕ, List, length, Option, Some, None}
use Rattle.p416_syntax.specs.Scopes.{Layout, fields_in}
use Rattle.v1_core.specs.Values.{Step, to_member, to_element}
use Rattle.v1_core.specs.Seats.{Content, some_bits, a_truth, an_error, Form, slot_form, header_form, stack_form, Seat, stepped_seat}
use Rattle.v1_core.specs.declared.node.Content.{Content as SlotContent}
use Rattle.v1_core.specs.declared.node.Content.TheVariants as content
use Rattle.v1_core.specs.declared.node.Which.{Which}
use Rattle.v1_core.specs.declared.node.Element.{Element}
use Rattle.v1_core.specs.Ready.{Ready, slot, element_slot, valid, element_valid}
use Rattle.v1_ready_forms.specs.Ways.{Way, its_value, its_validity, through_member, through_element, through_told}

-- an element that the place of a stack tells, and how many slots the elements of the stack have each
pub record Told : Type 0 where
  pub which : Which
  pub stack : ℕ
  pub apart : ℕ

-- a seat; where an element is told by its stack, the seat is that of the same part in the element 0
pub record Spot : Type 0 where
  pub seat : Seat
  pub told : Option Told

abbrev pub spot : Option Told → Seat → Spot
spot told seat = record { seat = seat; told = told }

abbrev pub spot_with : Option Told → Option Seat → Option Spot
spot_with told None = None
spot_with told (Some seat) = Some (spot told seat)

-- the field, the member or the element of a spot
abbrev pub spot_behind : List Layout → Step → Spot → Option Spot
spot_behind types step x = spot_with x.told (stepped_seat types x.seat.depth x.seat.form x.seat.start step)

abbrev pub told_in : ℕ → Which → ℕ → Told
told_in fields which stack = record { which = which; stack = stack; apart = fields }

-- the element of a stack that its place tells; an element has no stack in it
abbrev pub told_spot : List Layout → Which → Spot → Option Spot
told_spot types which x = of x.seat.form x.told
  where
    of : Form → Option Told → Option Spot
    of (stack_form type size) None =
        spot_with (Some (told_in (length (fields_in types type)) which x.seat.start.stack))
        (stepped_seat types x.seat.depth x.seat.form x.seat.start (to_element 0))
    of _ _ = None

-- what is asked of a spot, as a ready expression

abbrev pub slot_content : Content → SlotContent
slot_content (some_bits width) = content.Bits
slot_content a_truth = content.Truth
slot_content an_error = content.Error

-- the part of an element of which the same part of the element 0 has a number
abbrev pub element_with : Told → ℕ → ℕ → Element
element_with t first apart = record { which = t.which; stack = t.stack; first = first; apart = apart }

-- its value, where it is a single one
abbrev pub value_ready : Spot → Option Ready
value_ready x = of x.seat.form x.told
  where
    of : Form → Option Told → Option Ready
    of (slot_form c) None = Some (slot (slot_content c) x.seat.start.slot)
    of (slot_form (some_bits width)) (Some t) = Some (element_slot (element_with t x.seat.start.slot t.apart))
    of _ _ = None

-- whether it is valid, where it is a header
abbrev pub validity_ready : Spot → Option Ready
validity_ready x = of x.seat.form x.told
  where
    of : Form → Option Told → Option Ready
    of (header_form type) None = Some (valid x.seat.start.header)
    of (header_form type) (Some t) = Some (element_valid (element_with t x.seat.start.header 1))
    of _ _ = None

abbrev pub ready_behind : (Spot → Option Ready) → Option Spot → Option Ready
ready_behind further None = None
ready_behind further (Some x) = further x

-- what a way from a spot leads to
abbrev pub way_ready : List Layout → Way → Spot → Option Ready
way_ready types its_value x = value_ready x
way_ready types its_validity x = validity_ready x
way_ready types (through_member word way) x = ready_behind (way_ready types way) (spot_behind types (to_member word) x)
way_ready types (through_element number way) x =
    ready_behind (way_ready types way) (spot_behind types (to_element number) x)
way_ready types (through_told which way) x = ready_behind (way_ready types way) (told_spot types which x)
