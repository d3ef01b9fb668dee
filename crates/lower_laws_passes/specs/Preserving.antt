-- What is preserved in both: fields of metadata by the lists that have them, or by their marks (this project's own;
-- P4_14 1.0.5, "Clone", "Resubmit", "Recirculate", "Field Lists"; `v1model.p4`, `field_list`).
use Rattle.std.specs.Prelude.{◌≡◌, ℕ, ◌<◌, ◌^◌, Bool, true, false, ◌&&◌, nat_eq, if◌then◌else◌, List, [], ◌∷◌, length, get_or, slice_index_or, Option, Some, None}
use Rattle.std.specs.List.{list_any}
use Rattle.std.specs.Str.{bytes_eq}
use Rattle.p414_syntax.specs.declared.calculations.Item.{Item}
use Rattle.p414_syntax.specs.declared.calculations.Item.TheVariants as item
use Rattle.p414_syntax.specs.declared.syntax.Decl.{Decl}
use Rattle.p414_sem.specs.Slots.{Slot, standard, declared, slot_of}
use Rattle.p414_sem.specs.Expanded.{Expanded, items_in_list}
use Rattle.p414_sem.specs.Passes.{Preserved}
use Rattle.p416_syntax.specs.declared.parts.StructField.{StructField}
use Rattle.p416_syntax.specs.declared.parts.Type16.TheVariants as type_of
use Rattle.p416_syntax.specs.declared.program.Syntax16.{Syntax16}
use Rattle.p416_syntax.specs.Names.{Name}
use Rattle.p416_syntax.specs.Main.{metadata_kind}
use Rattle.v1_core.specs.Values.{Value, a_member, member_in}
use Rattle.v1_core.specs.Passes.{struct_fields, fields_of_type, is_in_list}
use Rattle.agreement_of_meanings.specs.Shown.{Shown, is_metadata, name_of, fields_of, field_at, shown_members}
use Rattle.agreement_of_meanings.specs.Agrees.{mark_of, MarksNone}
use Rattle.v1_core.specs.Frames.{of_metadata}
use Rattle.lower_laws_base.specs.Context.{StateLayout, shown_on, HasMembers}

-- the members of a struct stand in the order of its fields: a list is read off by place
abbrev pub Aligned : List StructField → Value → Type 0
Aligned [] v = Unit {0}
Aligned (f ∷ fields) (a_member called of rest) = (called ≡ f.name) × Aligned fields rest
Aligned (f ∷ fields) _ = ⊥

-- the field of a struct with this name
abbrev pub field_named : List StructField → Name → Option StructField
field_named [] word = None
field_named (f ∷ fields) word = if bytes_eq f.name word then Some f else field_named fields word

-- the numbers that are preserved of one instance of metadata
pub record KeptOne (x : Shown) (numbers : List ℕ) (v : Value) : Type 0 where
  pub shown : member_in v (name_of x) ≡ shown_members (fields_of x) numbers
  pub count : length numbers ≡ length (fields_of x)
  pub bounds : (k : ℕ) → k < length (fields_of x) → get_or numbers k 0 < 2 ^ (field_at (fields_of x) k).width

-- a preserved set of P4_14 and one of P4_16 correspond
pub record KeptAlike (g : StateLayout) (q : Preserved) (v : Value) : Type 0 where
  pub count : length q ≡ length g.names.instances
  pub each : (k : ℕ) → k < length g.names.instances → is_metadata (shown_on g k) ≡ true → KeptOne (shown_on g k) (slice_index_or q k []) v
  pub members : HasMembers (g.members of_metadata) v

-- an item of a list is this field
abbrev pub is_field : ℕ → ℕ → Slot → Bool
is_field k f (standard which) = false
is_field k f (declared i e g) = nat_eq i k && nat_eq g f

-- an item of a list is this field; it is no number, payload or instance
abbrev pub is_item : List Decl → ℕ → ℕ → Item → Bool
is_item ds k f (item.Field r) = is_field k f (slot_of ds r)
is_item ds k f _ = false

-- fields of this instance have no index
abbrev pub AtFirst : ℕ → Slot → Type 0
AtFirst k (standard which) = Unit {0}
AtFirst k (declared i e g) = i ≡ k → e ≡ 0

-- an item that is no field of this instance, or one without an index
abbrev pub ItemAtFirst : List Decl → ℕ → Item → Type 0
ItemAtFirst ds k (item.Field r) = AtFirst k (slot_of ds r)
ItemAtFirst ds k _ = Unit {0}

-- all items of a list are so
abbrev pub ItemsAtFirst : List Decl → ℕ → List Item → Type 0
ItemsAtFirst ds k [] = Unit {0}
ItemsAtFirst ds k (x ∷ xs) = ItemAtFirst ds k x × ItemsAtFirst ds k xs

-- what stands where a struct has no such field
abbrev pub no_struct_field : StructField
no_struct_field = record { notes = []; of = type_of.Bool; name = [] }

-- the field of a struct at this place
abbrev pub struct_field_at : List StructField → ℕ → StructField
struct_field_at fields k = slice_index_or fields k no_struct_field

-- The marks of fields: a field of metadata bears the number of each list that has it, and of no other.
pub record MarksFields (g : StateLayout) (ds : List Decl) (x : Expanded) (syntax : Syntax16) : Type 0 where
  -- the fields of the struct of an instance of metadata
  pub inner : ℕ → List StructField
  pub found : (k : ℕ) → k < length g.names.instances → is_metadata (shown_on g k) ≡ true → (f : StructField) × (field_named (struct_fields syntax.decls (metadata_kind syntax)) (name_of (shown_on g k)) ≡ Some f) × (fields_of_type syntax.decls f.of ≡ inner k)
  pub count : (k : ℕ) → k < length g.names.instances → is_metadata (shown_on g k) ≡ true → length (inner k) ≡ length (fields_of (shown_on g k))
  pub first : (list k : ℕ) → k < length g.names.instances → is_metadata (shown_on g k) ≡ true → ItemsAtFirst ds k (items_in_list x list)
  pub marked : (list number : ℕ) → mark_of g.names.marks list ≡ Some number → (k f : ℕ) → k < length g.names.instances → is_metadata (shown_on g k) ≡ true → f < length (inner k) → is_in_list number (struct_field_at (inner k) f) ≡ list_any (is_item ds k f) (items_in_list x list)
  pub unmarked : (number : ℕ) → MarksNone g.names.marks number → (k f : ℕ) → k < length g.names.instances → is_metadata (shown_on g k) ≡ true → f < length (inner k) → is_in_list number (struct_field_at (inner k) f) ≡ false

-- the fields of the struct of metadata
abbrev pub metadata_fields : Syntax16 → List StructField
metadata_fields syntax = struct_fields syntax.decls (metadata_kind syntax)
