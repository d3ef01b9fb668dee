-- The parts of the frames of a program, and the values of a packed frame of it (this project's own).
use Rattle.std.specs.Prelude.{ℕ, zero, suc, List, [], ◌∷◌, length, map, min, drop, slice_index_or, Option, Some, None}
use Rattle.p416_syntax.specs.declared.program.Syntax16.{Syntax16}
use Rattle.p416_syntax.specs.Kinds.{Kind}
use Rattle.p416_syntax.specs.Scopes.{Layout as TypeLayout, FieldKind, fields_in}
use Rattle.p416_syntax.specs.Totals.{bits_in}
use Rattle.p416_syntax.specs.BuiltIn.{standard}
use Rattle.p416_syntax.specs.Declarations.{layouts_of}
use Rattle.p416_syntax.specs.Main.{headers_kind, metadata_kind}
use Rattle.v1_core.specs.Values.{Value, no_value}
use Rattle.v1_core.specs.Slots.{PartOwner, the_headers, the_metadata, the_standard, the_variable, FramePart, variable_kinds}
use Rattle.v1_core.specs.Numbered.{Numbered}
use Rattle.v1_core.specs.Layouts.{Layout, no_parts, with_lone_slot, with_header_part, with_stack_part}
use Rattle.v1_core.specs.Cells.{Cells}
use Rattle.v1_core.specs.Seats.{Content, some_bits, a_truth, an_error, Form, slot_form, header_form, stack_form, struct_form, no_form, form_of, Start, behind, Seat, seat, seat_behind, seat_at}
use Rattle.v1_core.specs.PackedValues.{value_from}
use Rattle.v1_core.specs.Laid.{IsLaid}

-- the layout

-- the bits of a slot; no program that breaks no rule has bits over 128
abbrev pub slot_width : Content → ℕ
slot_width (some_bits width) = min width 128
slot_width a_truth = 1
slot_width an_error = 2

abbrev pub field_width : FieldKind → ℕ
field_width f = slot_width (some_bits (bits_in f.kind))

-- so many headers more
abbrev pub with_elements : List ℕ → ℕ → Layout → Layout
with_elements widths zero l = l
with_elements widths (suc count) l = with_elements widths count (with_header_part l widths)

abbrev pub with_members : (Form → Layout → Layout) → List FieldKind → Layout → Layout
with_members more [] l = l
with_members more (f ∷ fields) l = with_members more fields (more (form_of f.kind) l)

-- with the parts of a value behind the others
abbrev pub with_value : List TypeLayout → ℕ → Form → Layout → Layout
with_value types n (slot_form of) l = with_lone_slot l (slot_width of)
with_value types n (header_form type) l = with_header_part l (map field_width (fields_in types type))
with_value types n (stack_form type size) l =
    with_stack_part (with_elements (map field_width (fields_in types type)) size l) size
with_value types zero (struct_form type) l = l
with_value types (suc n) (struct_form type) l = with_members (λ k m. with_value types n k m) (fields_in types type) l
with_value types n no_form l = l

-- with those of values of these kinds
abbrev pub with_values : List TypeLayout → List Kind → Layout → Layout
with_values types [] l = l
with_values types (k ∷ kinds) l = with_values types kinds (with_value types (length types) (form_of k) l)

-- the kinds of all values whose parts have numbers, in order
abbrev pub frame_kinds : Syntax16 → List Kind
frame_kinds syntax = headers_kind syntax ∷ metadata_kind syntax ∷ standard ∷ variable_kinds syntax

-- the parts of the frames of a program
abbrev pub layout16 : Syntax16 → Layout
layout16 syntax = with_values (layouts_of syntax.decls) (frame_kinds syntax) no_parts

-- where values stand

abbrev pub first_start : Start
first_start = record { slot = 0; header = 0; stack = 0 }

-- the value with a number among values of these kinds, one after another
abbrev pub seat_in : List TypeLayout → List Kind → Start → ℕ → Option Seat
seat_in types [] b number = None
seat_in types (k ∷ kinds) b zero = Some (seat (length types) (form_of k) b)
seat_in types (k ∷ kinds) b (suc number) = seat_in types kinds (behind types (length types) (form_of k) b) number

abbrev pub behind_kinds : List TypeLayout → List Kind → Start → Start
behind_kinds types [] b = b
behind_kinds types (k ∷ kinds) b = behind_kinds types kinds (behind types (length types) (form_of k) b)

abbrev pub AreLaid : Layout → List TypeLayout → List Kind → Start → Type 0
AreLaid l types [] b = Unit {0}
AreLaid l types (k ∷ kinds) b =
    IsLaid l types (length types) (form_of k) b × AreLaid l types kinds (behind types (length types) (form_of k) b)

abbrev pub owner_number : PartOwner → ℕ
owner_number the_headers = 0
owner_number the_metadata = 1
owner_number the_standard = 2
owner_number (the_variable number) = suc (suc (suc number))

abbrev pub owner_seat : Syntax16 → PartOwner → Option Seat
owner_seat syntax owner = seat_in (layouts_of syntax.decls) (frame_kinds syntax) first_start (owner_number owner)

-- where a part stands; none where its path leads to nothing
abbrev pub part_seat : Syntax16 → FramePart → Option Seat
part_seat syntax p = seat_behind (λ s. seat_at (layouts_of syntax.decls) p.path s) (owner_seat syntax p.owner)

-- the values

-- values of these kinds, one after another
abbrev pub values_from : List TypeLayout → Cells → List Kind → Start → List Value
values_from types c [] b = []
values_from types c (k ∷ kinds) b =
    value_from types c (length types) (form_of k) b
    ∷ values_from types c kinds (behind types (length types) (form_of k) b)

-- the values of a frame in order: headers, metadata, standard metadata, and variables
abbrev pub of_values : List Value → Cells → Numbered
of_values values c = record {
  headers = slice_index_or values 0 no_value;
  metadata = slice_index_or values 1 no_value;
  standard_metadata = slice_index_or values 2 no_value;
  variables = drop 3 values;
  clone_i2e = c.clone_i2e;
  clone_e2e = c.clone_e2e;
  resubmit = c.resubmit;
  recirculate = c.recirculate;
  events = c.events;
}

-- the values whose parts have numbers, as these cells have them
abbrev pub numbered16 : Syntax16 → Cells → Numbered
numbered16 syntax c = of_values (values_from (layouts_of syntax.decls) c (frame_kinds syntax) first_start) c
