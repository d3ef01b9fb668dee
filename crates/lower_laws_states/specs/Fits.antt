-- What keeps a state of P4_14 one of its program: which header may stand in an instance, and which numbers, effects and
-- primitives fit (this project's own; P4_14 1.0.5, "Header Type Declarations", "Header and Metadata Instances",
-- "Primitive Actions"). All is told by the declarations alone.
use Rattle.std.specs.Prelude.{◌≡◌, ℕ, ◌<◌, ◌≤◌, ◌^◌, true, false, List, [], length, slice_index, Some, All, IfSome}
use Rattle.std.specs.Option.{option_map_or}
use Rattle.p414_syntax.specs.declared.syntax.Decl.{Decl}
use Rattle.p414_syntax.specs.declared.syntax.Decl.TheVariants as decl
use Rattle.p414_syntax.specs.declared.syntax.Sort.TheVariants as sort
use Rattle.p414_syntax.specs.Names.{numbered}
use Rattle.p414_syntax.specs.Fields.{size_in}
use Rattle.p414_syntax.specs.Targets.{is_metadata_in}
use Rattle.p414_syntax.specs.Expansion.{lists}
use Rattle.p414_syntax.specs.Totals.{elements_of}
use Rattle.p414_sem.specs.declared.standard.Standard.{Standard}
use Rattle.p414_sem.specs.declared.standard.Standard.TheVariants.{IngressPort, EgressSpec, EgressPort, PacketLength, InstanceType}
use Rattle.p414_sem.specs.Slots.{Slot, standard, declared, Element, Target}
use Rattle.p414_sem.specs.State.{Header, Instance}
use Rattle.p414_sem.specs.Packing.{widths_of_type}
use Rattle.p414_sem.specs.Fitting.{FitsHeader, FitsRequest, greatest_place}
use Rattle.p414_sem.specs.Operations.{Primitive, write, remove_header, copy_header, pop, execute_meter, ask}
use Rattle.p414_sem.specs.Effects.{Effect, put_field, put_header, put_stack, put_cell, count_packet, take_colour, put_request}

-- the widths of the fields of an instance, by its header type ("Header Type Declarations")
abbrev pub widths_in : List Decl → Decl → List ℕ
widths_in ds (decl.Header x) = widths_of_type ds x.header_type
widths_in ds (decl.Metadata x) = widths_of_type ds x.header_type
widths_in ds _ = []

-- the widths of the fields of the instance with this number
abbrev pub widths_at : List Decl → ℕ → List ℕ
widths_at ds i = option_map_or (widths_in ds) (numbered sort.Instance ds i) []

-- the bits of each field of standard metadata ("Standard Intrinsic Metadata"; the widths are this project's own)
abbrev pub standard_bits : Standard → ℕ
standard_bits IngressPort = 9
standard_bits EgressSpec = 9
standard_bits EgressPort = 9
standard_bits PacketLength = 32
standard_bits InstanceType = 32

-- the bits of the field at a slot; 0 where no field is
abbrev pub slot_bits : List Decl → Slot → ℕ
slot_bits ds (standard which) = standard_bits which
slot_bits ds (declared i e f) = slice_index (widths_at ds i) f

-- the instance with this number, if there is one, is so
abbrev pub OfInstance : List Decl → ℕ → (Decl → Type 0) → Type 0
OfInstance ds i P = (d : Decl) → numbered sort.Instance ds i ≡ Some d → P d

-- a header, an element of a stack or metadata: its numbers fit the widths, and are 0 where it is invalid; metadata is valid
pub record IsElementOf (ds : List Decl) (d : Decl) (h : Header) : Type 0 where
  pub fits : FitsHeader (widths_in ds d) h
  pub metadata : is_metadata_in d ≡ true → h.valid ≡ true

-- an instance: as many elements as its size, and a place that is one of theirs or the one behind the last
pub record IsInstanceOf (ds : List Decl) (d : Decl) (i : Instance) : Type 0 where
  pub each : All (IsElementOf ds d) i.elements
  pub count : length i.elements ≡ elements_of (size_in d)
  pub place : i.place ≤ greatest_place (size_in d)

-- a header that stands at this place, if there is such a place
abbrev pub FitsPlace : List Decl → Element → Header → Type 0
FitsPlace ds at h = OfInstance ds at.instance (λ d. at.element < elements_of (size_in d) → IsElementOf ds d h)

-- a stack, if there is such an instance
pub record AreElements (ds : List Decl) (d : Decl) (elements : List Header) : Type 0 where
  pub each : All (IsElementOf ds d) elements
  pub count : length elements ≡ elements_of (size_in d)

-- whatever a field of the target's width keeps fits the field
abbrev pub FitsTarget : List Decl → Target → Type 0
FitsTarget ds t = (n : ℕ) → n < 2 ^ t.width → n < 2 ^ slot_bits ds t.slot

-- what an effect puts somewhere fits the place: a number, a header, a stack, a request
abbrev pub FitsEffect : List Decl → Effect → Type 0
FitsEffect ds (put_field slot n) = n < 2 ^ slot_bits ds slot
FitsEffect ds (put_header at h) = FitsPlace ds at h
FitsEffect ds (put_stack i elements) = OfInstance ds i (λ d. AreElements ds d elements)
FitsEffect ds (put_cell object index n) = Unit {0}
FitsEffect ds (count_packet object index) = Unit {0}
FitsEffect ds (take_colour object index target live) = FitsTarget ds target
FitsEffect ds (put_request kind request) = FitsRequest ds request

-- no metadata has this number
abbrev pub IsNoMetadata : List Decl → ℕ → Type 0
IsNoMetadata ds i = OfInstance ds i (λ d. is_metadata_in d ≡ false)

-- there is such an element, and its fields have the widths of those of the other one
pub record IsAlike (ds : List Decl) (d : Decl) (from : Element) : Type 0 where
  pub other : Decl
  pub numbered_so : numbered sort.Instance ds from.instance ≡ Some other
  pub element : from.element < elements_of (size_in other)
  pub widths : widths_in ds other ≡ widths_in ds d

-- What a primitive asks of its program: what is written keeps the width of its field, metadata stays valid, a header is copied
-- to one of its type, and a list is one of the program's.
abbrev pub FitsPrimitive : List Decl → Primitive → Type 0
FitsPrimitive ds (write sums target term) = FitsTarget ds target
FitsPrimitive ds (remove_header at) = IsNoMetadata ds at.instance
FitsPrimitive ds (copy_header at from) = IsNoMetadata ds at.instance × OfInstance ds at.instance (λ d. IsAlike ds d from)
FitsPrimitive ds (pop i count) = IsNoMetadata ds i
FitsPrimitive ds (execute_meter object index target) = FitsTarget ds target
FitsPrimitive ds (ask kind session list) = IfSome list (λ number. number < length (lists ds))
FitsPrimitive ds _ = Unit {0}
