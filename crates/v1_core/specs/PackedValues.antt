-- The values that the parts of a packed frame make up, by what is read of them.
use Rattle.std.specs.Prelude.{ℕ, zero, suc, ◌==◌, not, List, [], ◌∷◌, length}
use Rattle.p416_syntax.specs.Scopes.{Layout, FieldKind, fields_in}
use Rattle.p416_syntax.specs.Totals.{bits_in}
use Rattle.v1_core.specs.Values.{Field, Header, Value, no_members, a_member, no_value}
use Rattle.v1_core.specs.Values as value
use Rattle.v1_core.specs.Cells.{Cells, slot_value, header_valid, stack_place}
use Rattle.v1_core.specs.Seats.{Content, some_bits, a_truth, an_error, Form, slot_form, header_form, stack_form, struct_form, no_form, form_of, Start, moved, behind, Seat}

-- a number as a value
abbrev pub content_value : Content → ℕ → Value
content_value (some_bits width) n = value.a_number width n
content_value a_truth n = value.a_truth (not (n == 0))
content_value an_error n = value.an_error n

-- fields from a slot on
abbrev pub field_values : List FieldKind → Cells → Start → List Field
field_values [] c b = []
field_values (f ∷ fields) c b =
    record { called = f.called; width = bits_in f.kind; number = slot_value c b.slot } ∷ field_values fields c (moved b 1 0 0)

abbrev pub header_value : List FieldKind → Cells → Start → Header
header_value fields c b = record { valid = header_valid c b.header; fields = field_values fields c b }

-- so many elements
abbrev pub element_values : List FieldKind → Cells → ℕ → Start → List Header
element_values fields c zero b = []
element_values fields c (suc count) b =
    header_value fields c b ∷ element_values fields c count (moved b (length fields) 1 0)

-- members one after another
abbrev pub member_values : (Form → Start → Value) → (Form → Start → Start) → List FieldKind → Start → Value
member_values value next [] b = no_members
member_values value next (f ∷ fields) b =
    a_member f.called (value (form_of f.kind) b) (member_values value next fields (next (form_of f.kind) b))

-- the value whose parts begin there, through so many structs within each other
abbrev pub value_from : List Layout → Cells → ℕ → Form → Start → Value
value_from types c n (slot_form of) b = content_value of (slot_value c b.slot)
value_from types c n (header_form type) b = value.a_header (header_value (fields_in types type) c b)
value_from types c n (stack_form type size) b =
    value.a_stack (stack_place c b.stack) (element_values (fields_in types type) c size b)
value_from types c zero (struct_form type) b = no_members
value_from types c (suc n) (struct_form type) b =
    member_values (λ k s. value_from types c n k s) (λ k s. behind types n k s) (fields_in types type) b
value_from types c n no_form b = no_value

-- the value of a part
abbrev pub seat_value : List Layout → Cells → Seat → Value
seat_value types c s = value_from types c s.depth s.form s.start
