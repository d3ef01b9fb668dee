-- That the parts of a value are where a layout has them.
use Rattle.std.specs.Prelude.{◌≡◌, ℕ, zero, suc, ◌+◌, ◌<◌, ◌≤◌, List, [], ◌∷◌, length, slice_index_or, Option, Some, None}
use Rattle.p416_syntax.specs.Scopes.{Layout as TypeLayout, FieldKind, fields_in}
use Rattle.v1_core.specs.Layouts.{Layout, no_slots}
use Rattle.v1_core.specs.Seats.{Form, slot_form, header_form, stack_form, struct_form, no_form, form_of, Start, moved, behind, Seat}

-- a slot with its owner
pub record IsSlot (l : Layout) (slot : ℕ) (owner : Option ℕ) : Type 0 where
  pub within : slot < length l.widths
  pub owned : slice_index_or l.owners slot None ≡ owner

-- so many fields of a header, from a slot on
abbrev pub AreFields : Layout → ℕ → ℕ → Start → Type 0
AreFields l header zero b = Unit {0}
AreFields l header (suc count) b = IsSlot l b.slot (Some header) × AreFields l header count (moved b 1 0 0)

-- a header with so many fields
pub record IsHeader (l : Layout) (fields : ℕ) (b : Start) : Type 0 where
  pub within : b.header < length l.headers
  pub room : b.slot + fields ≤ length l.widths
  pub slots : slice_index_or l.headers b.header no_slots ≡ record { from = b.slot; to = b.slot + fields }
  pub each : AreFields l b.header fields b

-- so many elements of a stack
abbrev pub AreElements : Layout → ℕ → ℕ → Start → Type 0
AreElements l fields zero b = Unit {0}
AreElements l fields (suc count) b = IsHeader l fields b × AreElements l fields count (moved b fields 1 0)

abbrev pub AreMembers : (Form → Start → Type 0) → (Form → Start → Start) → List FieldKind → Start → Type 0
AreMembers P next [] b = Unit {0}
AreMembers P next (f ∷ fields) b = P (form_of f.kind) b × AreMembers P next fields (next (form_of f.kind) b)

-- a value whose parts begin there
abbrev pub IsLaid : Layout → List TypeLayout → ℕ → Form → Start → Type 0
IsLaid l types n (slot_form of) b = IsSlot l b.slot None
IsLaid l types n (header_form type) b = IsHeader l (length (fields_in types type)) b
IsLaid l types n (stack_form type size) b =
    (b.stack < length l.sizes) × AreElements l (length (fields_in types type)) size b
IsLaid l types zero (struct_form type) b = Unit {0}
IsLaid l types (suc n) (struct_form type) b =
    AreMembers (λ k s. IsLaid l types n k s) (λ k s. behind types n k s) (fields_in types type) b
IsLaid l types n no_form b = Unit {0}

-- a part, where it is a field of a header too
abbrev pub IsLaidAt : Layout → List TypeLayout → ℕ → Form → Start → Option ℕ → Type 0
IsLaidAt l types n (slot_form of) b owner = IsSlot l b.slot owner
IsLaidAt l types n (header_form type) b owner = IsLaid l types n (header_form type) b
IsLaidAt l types n (stack_form type size) b owner = IsLaid l types n (stack_form type size) b
IsLaidAt l types n (struct_form type) b owner = IsLaid l types n (struct_form type) b
IsLaidAt l types n no_form b owner = Unit {0}

abbrev pub IsSeatLaid : Layout → List TypeLayout → Seat → Type 0
IsSeatLaid l types s = IsLaidAt l types s.depth s.form s.start s.owner

-- a slot that is a field of a header is among the slots of that header
abbrev pub OwnersAgree : Layout → Type 0
OwnersAgree l =
    (slot header : ℕ) → slice_index_or l.owners slot None ≡ Some header →
    ((slice_index_or l.headers header no_slots).from ≤ slot) × (slot < (slice_index_or l.headers header no_slots).to)
