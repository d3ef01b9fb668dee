-- That the slots of a layout have the widths of what stands in them, and its stacks their sizes (this project's own).
use Rattle.std.specs.Prelude.{◌≡◌, ℕ, zero, suc, ◌≤◌, List, [], ◌∷◌, length, slice_index}
use Rattle.p416_syntax.specs.Names.{Name}
use Rattle.p416_syntax.specs.Kinds.{Kind}
use Rattle.p416_syntax.specs.Scopes.{Layout as TypeLayout, FieldKind, fields_in}
use Rattle.p416_syntax.specs.Totals.{bits_in}
use Rattle.v1_core.specs.Layouts.{Layout}
use Rattle.v1_core.specs.Seats.{some_bits, Form, slot_form, header_form, stack_form, struct_form, no_form, form_of, Start, moved, behind}
use Rattle.v1_core.specs.Laid.{AreMembers}
use Rattle.v1_core.specs.Programs.{slot_width, field_width}

abbrev pub FieldsWide : Layout → List FieldKind → Start → Type 0
FieldsWide l [] b = Unit {0}
FieldsWide l (f ∷ fields) b = (slice_index l.widths b.slot ≡ field_width f) × FieldsWide l fields (moved b 1 0 0)

abbrev pub ElementsWide : Layout → List FieldKind → ℕ → Start → Type 0
ElementsWide l fields zero b = Unit {0}
ElementsWide l fields (suc count) b = FieldsWide l fields b × ElementsWide l fields count (moved b (length fields) 1 0)

-- a value whose parts begin there
abbrev pub IsWide : Layout → List TypeLayout → ℕ → Form → Start → Type 0
IsWide l types n (slot_form of) b = slice_index l.widths b.slot ≡ slot_width of
IsWide l types n (header_form type) b = FieldsWide l (fields_in types type) b
IsWide l types n (stack_form type size) b =
    (slice_index l.sizes b.stack ≡ size) × ElementsWide l (fields_in types type) size b
IsWide l types zero (struct_form type) b = Unit {0}
IsWide l types (suc n) (struct_form type) b =
    AreMembers (λ k s. IsWide l types n k s) (λ k s. behind types n k s) (fields_in types type) b
IsWide l types n no_form b = Unit {0}

-- values of these kinds, one after another
abbrev pub AreWide : Layout → List TypeLayout → List Kind → Start → Type 0
AreWide l types [] b = Unit {0}
AreWide l types (k ∷ kinds) b =
    IsWide l types (length types) (form_of k) b × AreWide l types kinds (behind types (length types) (form_of k) b)

-- no bits are wider than 128, as the rules want it

abbrev pub IsNarrow : Form → Type 0
IsNarrow (slot_form (some_bits width)) = width ≤ 128
IsNarrow form = Unit {0}

abbrev pub FieldsNarrow : List FieldKind → Type 0
FieldsNarrow [] = Unit {0}
FieldsNarrow (f ∷ fields) = (bits_in f.kind ≤ 128) × FieldsNarrow fields

abbrev pub TypesNarrow : List TypeLayout → Type 0
TypesNarrow types = (type : Name) → FieldsNarrow (fields_in types type)

abbrev pub KindsNarrow : List Kind → Type 0
KindsNarrow [] = Unit {0}
KindsNarrow (k ∷ kinds) = (bits_in k ≤ 128) × KindsNarrow kinds
