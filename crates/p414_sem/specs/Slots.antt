-- What names mean by number: the instance with a name has its number in the order of declaration, a field its number in
-- its header type (P4_14 1.0.5, "Headers and Fields", "Standard Intrinsic Metadata"). A name that isn't there has a
-- number past all others, where nothing is read but 0 and nothing is written; no accepted program has one.
use Rattle.std.specs.Prelude.{ℕ, Bool, false, if◌then◌else◌, List, [], length, Option, Some, None, codes, unwrap_or}
use Rattle.std.specs.Option.{option_map_or}
use Rattle.std.specs.Str.{bytes_eq}
use Rattle.p414_syntax.specs.declared.parts.Index.{Index}
use Rattle.p414_syntax.specs.declared.parts.Index.TheVariants.{At, Next, Last}
use Rattle.p414_syntax.specs.declared.parts.Inst.{Inst}
use Rattle.p414_syntax.specs.declared.parts.Ref.{Ref}
use Rattle.p414_syntax.specs.declared.headers.Field.{Field}
use Rattle.p414_syntax.specs.declared.syntax.Decl.{Decl}
use Rattle.p414_syntax.specs.Views.{HeaderTypeTree}
use Rattle.p414_syntax.specs.Names.{Name, find_name, has_name}
use Rattle.p414_syntax.specs.Primitives.{is_standard}
use Rattle.p414_syntax.specs.Fields.{instance_type, field_in, ref_width}
use Rattle.p414_syntax.specs.Expansion.{type_fields}
use Rattle.p414_syntax.specs.ParserGraph.{instance_number}
use Rattle.p414_sem.specs.declared.standard.Standard.{Standard}
use Rattle.p414_sem.specs.declared.standard.Standard.TheVariants.{IngressPort, EgressSpec, EgressPort, PacketLength, InstanceType}

-- where a number stands
pub data Slot : Type 0 where
  -- a field of `standard_metadata`
  standard : (which : Standard) → Slot
  -- a field of an element of a stack; of a header and of metadata the element is 0
  declared : (instance element field : ℕ) → Slot

-- an element of a stack, or a header, or metadata
pub record Element : Type 0 where
  pub instance : ℕ
  pub element : ℕ

-- a field that is written: where it stands, how many bits it has, and whether it is saturating
pub record Target : Type 0 where
  pub slot : Slot
  pub width : ℕ
  pub saturating : Bool

-- the element that an index names: `next` is told by what parses, and stands nowhere else; `last` is left out
abbrev pub element_number : Option Index → ℕ
element_number (Some (At n)) = n.value
element_number (Some Next) = 0
element_number (Some Last) = 0
element_number None = 0

abbrev pub element_of : List Decl → Inst → Element
element_of ds i = record { instance = instance_number ds i.name; element = element_number i.index }

-- the names of the fields of an instance, in order, and the number of a field among them
abbrev pub field_names : List Decl → Name → List Name
field_names ds instance = option_map_or type_fields (instance_type ds instance) []

abbrev pub field_number : List Decl → Name → Name → ℕ
field_number ds instance field =
    unwrap_or (find_name (field_names ds instance) field) (length (field_names ds instance))

-- the field of standard metadata with this name, if it isn't left out
abbrev pub standard_field : Name → Option Standard
standard_field name =
    if bytes_eq name (codes "ingress_port") then Some IngressPort
    else if bytes_eq name (codes "egress_spec") then Some EgressSpec
    else if bytes_eq name (codes "egress_port") then Some EgressPort
    else if bytes_eq name (codes "packet_length") then Some PacketLength
    else if bytes_eq name (codes "instance_type") then Some InstanceType
    else None

abbrev pub declared_slot : List Decl → Ref → Slot
declared_slot ds r =
    declared (instance_number ds r.instance.name) (element_number r.instance.index)
    (field_number ds r.instance.name r.field)

-- where a field stands
abbrev pub slot_of : List Decl → Ref → Slot
slot_of ds r =
    if is_standard r.instance.name then option_map_or standard (standard_field r.field) (declared_slot ds r)
    else declared_slot ds r

-- a field is saturating
abbrev pub is_saturating : Field → Bool
is_saturating f = has_name f.attributes (codes "saturating")

abbrev pub is_saturating_in : Name → HeaderTypeTree → Bool
is_saturating_in field t = option_map_or is_saturating (field_in t field) false

abbrev pub is_saturating_ref : List Decl → Ref → Bool
is_saturating_ref ds r =
    if is_standard r.instance.name then false
    else option_map_or (is_saturating_in r.field) (instance_type ds r.instance.name) false

-- the bits of a field
abbrev pub bits_of_ref : List Decl → Ref → ℕ
bits_of_ref ds r = unwrap_or (ref_width ds r) 0

abbrev pub field_target : List Decl → Ref → Target
field_target ds r =
    record { slot = slot_of ds r; width = bits_of_ref ds r; saturating = is_saturating_ref ds r }
