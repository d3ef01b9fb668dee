-- How the instances of a P4_14 program stand in a frame of a P4_16 program that does the same: a header and a stack among the
-- headers, and metadata as a struct of its own among the metadata, each field under a name of its own (this project's own).
use Rattle.std.specs.Prelude.{◌≡◌, ◌≢◌, ℕ, ◌<◌, Bool, true, false, List, [], ◌∷◌, length, map, slice_index_or, None, codes}
use Rattle.p414_sem.specs.declared.standard.Standard.{Standard}
use Rattle.p414_sem.specs.declared.standard.Standard.TheVariants.{IngressPort, EgressSpec, EgressPort, PacketLength, InstanceType}
use Rattle.p414_sem.specs.Slots.{Slot, standard, declared}
use Rattle.p414_sem.specs.State.{Header as Header14, Instance, no_header as no_header14, no_instance}
use Rattle.p416_syntax.specs.Names.{Name}
use Rattle.v1_core.specs.Values.{Field, Header, Value, a_number, a_header, a_stack, no_members, a_member, Step, to_member, to_element, member_in}
use Rattle.v1_core.specs.Frames.{Frame, Owner, of_headers, of_metadata, of_standard, Reference, owned}

-- a field by its new name, with its bits
pub record NamedField : Type 0 where
  pub called : Name
  pub width : ℕ

-- an instance by its new name, with its fields
pub data Shown : Type 0 where
  as_header : (called : Name) (fields : List NamedField) → Shown
  as_stack : (called : Name) (fields : List NamedField) → Shown
  as_metadata : (called : Name) (fields : List NamedField) → Shown

abbrev pub name_of : Shown → Name
name_of (as_header called fields) = called
name_of (as_stack called fields) = called
name_of (as_metadata called fields) = called

abbrev pub fields_of : Shown → List NamedField
fields_of (as_header called fields) = fields
fields_of (as_stack called fields) = fields
fields_of (as_metadata called fields) = fields

abbrev pub is_metadata : Shown → Bool
is_metadata (as_metadata called fields) = true
is_metadata _ = false

-- the part of the frame in which it stands
abbrev pub owner_of : Shown → Owner
owner_of (as_header called fields) = of_headers
owner_of (as_stack called fields) = of_headers
owner_of (as_metadata called fields) = of_metadata

abbrev pub width_of : NamedField → ℕ
width_of f = f.width

-- parts by number

abbrev pub no_field : NamedField
no_field = record { called = []; width = 0 }

abbrev pub field_at : List NamedField → ℕ → NamedField
field_at fields k = slice_index_or fields k no_field

abbrev pub nothing_shown : Shown
nothing_shown = as_header [] []

abbrev pub shown_at : List Shown → ℕ → Shown
shown_at xs k = slice_index_or xs k nothing_shown

-- which names differ: those of the fields of an instance, and those of two instances of one struct

abbrev pub FieldsDiffer : List NamedField → Type 0
FieldsDiffer fields =
    (j k : ℕ) → j < length fields → k < length fields → j ≢ k → (field_at fields j).called ≢ (field_at fields k).called

pub record NamesDiffer (xs : List Shown) : Type 0 where
  pub instances : (j k : ℕ) → j < length xs → k < length xs → j ≢ k → is_metadata (shown_at xs j) ≡ is_metadata (shown_at xs k) → name_of (shown_at xs j) ≢ name_of (shown_at xs k)
  pub fields : (k : ℕ) → k < length xs → FieldsDiffer (fields_of (shown_at xs k))

-- what an instance is shown as

abbrev pub shown_fields : List NamedField → List ℕ → List Field
shown_fields [] numbers = []
shown_fields (f ∷ fields) [] = []
shown_fields (f ∷ fields) (n ∷ numbers) =
    record { called = f.called; width = f.width; number = n } ∷ shown_fields fields numbers

abbrev pub shown_header : List NamedField → Header14 → Header
shown_header fields h = record { valid = h.valid; fields = shown_fields fields h.numbers }

abbrev pub shown_members : List NamedField → List ℕ → Value
shown_members [] numbers = no_members
shown_members (f ∷ fields) [] = no_members
shown_members (f ∷ fields) (n ∷ numbers) = a_member f.called (a_number f.width n) (shown_members fields numbers)

abbrev pub element : Instance → ℕ → Header14
element i e = slice_index_or i.elements e no_header14

abbrev pub shown_value : Shown → Instance → Value
shown_value (as_header called fields) i = a_header (shown_header fields (element i 0))
shown_value (as_stack called fields) i = a_stack i.place (map (shown_header fields) i.elements)
shown_value (as_metadata called fields) i = shown_members fields (element i 0).numbers

-- under its new name an instance stands in the frame as it is shown
abbrev pub IsShown : Frame → Shown → Instance → Type 0
IsShown f x i = member_in (owned f (owner_of x)) (name_of x) ≡ shown_value x i

pub record AreShown (xs : List Shown) (instances : List Instance) (f : Frame) : Type 0 where
  pub count : length instances ≡ length xs
  pub each : (k : ℕ) → k < length xs → IsShown f (shown_at xs k) (slice_index_or instances k no_instance)

-- standard metadata

abbrev pub standard_word : Standard → Name
standard_word IngressPort = codes "ingress_port"
standard_word EgressSpec = codes "egress_spec"
standard_word EgressPort = codes "egress_port"
standard_word PacketLength = codes "packet_length"
standard_word InstanceType = codes "instance_type"

abbrev pub standard_width : Standard → ℕ
standard_width IngressPort = 9
standard_width EgressSpec = 9
standard_width EgressPort = 9
standard_width PacketLength = 32
standard_width InstanceType = 32

-- l-values

abbrev pub reference : Owner → List Step → Reference
reference owner steps = record { owner = owner; steps = steps; slice = None }

-- an element: of a header it is 0
abbrev pub element_steps : Shown → ℕ → List Step
element_steps (as_stack called fields) e = to_member called ∷ to_element e ∷ []
element_steps x e = to_member (name_of x) ∷ []

abbrev pub field_steps : Shown → ℕ → Name → List Step
field_steps (as_header called fields) e word = to_member called ∷ to_member word ∷ []
field_steps (as_stack called fields) e word = to_member called ∷ to_element e ∷ to_member word ∷ []
field_steps (as_metadata called fields) e word = to_member called ∷ to_member word ∷ []

abbrev pub instance_reference : Shown → Reference
instance_reference x = reference (owner_of x) (to_member (name_of x) ∷ [])

abbrev pub element_reference : Shown → ℕ → Reference
element_reference x e = reference (owner_of x) (element_steps x e)

abbrev pub field_reference : Shown → ℕ → ℕ → Reference
field_reference x e k = reference (owner_of x) (field_steps x e (field_at (fields_of x) k).called)

-- what a slot is in a frame, and how many bits it has
abbrev pub slot_reference : List Shown → Slot → Reference
slot_reference xs (standard which) = reference of_standard (to_member (standard_word which) ∷ [])
slot_reference xs (declared i e k) = field_reference (shown_at xs i) e k

abbrev pub slot_width : List Shown → Slot → ℕ
slot_width xs (standard which) = standard_width which
slot_width xs (declared i e k) = (field_at (fields_of (shown_at xs i)) k).width
