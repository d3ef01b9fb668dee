-- Headers and stacks by themselves, packed: the fields of each header lie side by side in octets of its own, as they do on
-- the wire (P4_14 1.0.5, "Headers and Fields", "Header Stacks").
use Rattle.std.specs.Prelude.{◌≡◌, ℕ, ◌%◌, ◌<◌, ◌≤◌, Bool, true, false, List, length, map, replicate, All}
use Rattle.p4x_bits.specs.BitLists.{octet_bits}
use Rattle.p414_sem.specs.State.{Header, Instance, instance_at}
use Rattle.p414_sem.specs.Packing.{numbers_in}
use Rattle.p414_sem.specs.Fitting.{FitsHeader}
use Rattle.p414_layout.specs.declared.shape.Shape.{Shape}
use Rattle.p414_layout.specs.Placed.{total, octets_for}
use Rattle.p414_layout.specs.Shapes.{shape_at, element_count, last_place}
use Rattle.p414_state.specs.Packets.{Packet}

-- a header, an element of a stack or metadata: whether it is valid, and its octets
pub record Packed : Type 0 where
  pub valid : Bool
  pub octets : List ℕ

-- what it means, where its fields have these widths
abbrev pub header_in : List ℕ → Packed → Header
header_in widths p = record { valid = p.valid; numbers = numbers_in widths (octet_bits p.octets) }

-- An element of an instance has the octets that its fields take, all 0 where it is invalid; metadata is valid.
pub record IsPacked (shape : Shape) (p : Packed) : Type 0 where
  pub room : length p.octets ≡ octets_for (total shape.widths)
  pub zeros : p.valid ≡ false → p.octets ≡ replicate (octets_for (total shape.widths)) 0
  pub metadata : shape.metadata ≡ true → p.valid ≡ true

-- these are all elements of an instance
pub record ArePacked (shape : Shape) (elements : List Packed) : Type 0 where
  pub count : length elements ≡ element_count shape
  pub each : All (IsPacked shape) elements

-- what is packed is this header
pub record HoldsHeader (shape : Shape) (h : Header) (p : Packed) : Type 0 where
  pub is : header_in shape.widths p ≡ h
  pub packed : IsPacked shape p

-- what is packed are these elements
pub record HoldsStack (shape : Shape) (headers : List Header) (elements : List Packed) : Type 0 where
  pub are : map (header_in shape.widths) elements ≡ headers
  pub packed : ArePacked shape elements

-- there is such an element
pub record HasElement (layout : List Shape) (i e : ℕ) : Type 0 where
  pub element : e < element_count (shape_at layout i)

-- there is, and its fields are whole octets
pub record IsWhole (layout : List Shape) (i e : ℕ) : Type 0 where
  pub element : e < element_count (shape_at layout i)
  pub octets : total (shape_at layout i).widths % 8 ≡ 0

abbrev pub IsValid : Header → Type 0
IsValid h = h.valid ≡ true

-- An instance has the elements that its shape tells, each with a number below 2 ^ width for each field, which are 0 where
-- it is invalid; metadata is valid, and the place of a stack is at most the one behind its last element.
pub record FitsShape (shape : Shape) (i : Instance) : Type 0 where
  pub count : length i.elements ≡ element_count shape
  pub each : All (FitsHeader shape.widths) i.elements
  pub metadata : shape.metadata ≡ true → All IsValid i.elements
  pub place : i.place ≤ last_place shape

-- so does the instance with this number
abbrev pub FitsAt : Packet → ℕ → Type 0
FitsAt p i = FitsShape (shape_at p.layout i) (instance_at p.state i)
