-- The state of a packet: a map that gives each instance and each element of a stack its validity and a number per field,
-- with what belongs to the packet beside it (P4_14 1.0.5, "Headers and Fields", "Standard Intrinsic Metadata",
-- "Parser Specification"; requests and events, and that a field reads 0 where the standard leaves it undefined, are this
-- project's own). Instances stand in the order of declaration, and fields in the order of their header type. Metadata is
-- always valid, and the fields of an invalid header are 0.
use Rattle.std.specs.Prelude.{ℕ, ◌%◌, ◌^◌, Bool, true, false, not, if◌then◌else◌, List, [], ◌∷◌, ◌++◌, length, drop, map, replicate, slice_index, slice_index_or, slice_set, Option, None}
use Rattle.fabric.specs.declared.items.Event.{Event}
use Rattle.fabric.specs.declared.items.RequestKind.{RequestKind}
use Rattle.fabric.specs.declared.items.RequestKind.TheVariants.{CloneI2E, CloneE2E, Resubmit, Recirculate}
use Rattle.p414_syntax.specs.declared.syntax.Decl.{Decl}
use Rattle.p414_syntax.specs.declared.syntax.Decl.TheVariants as decl
use Rattle.p414_syntax.specs.declared.syntax.Sort.TheVariants as sort
use Rattle.p414_syntax.specs.Names.{declared_in}
use Rattle.p414_syntax.specs.Totals.{elements_of, fields_of_type}
use Rattle.p414_sem.specs.declared.requests.Request14.{Request14}
use Rattle.p414_sem.specs.declared.standard.Standard.{Standard}
use Rattle.p414_sem.specs.declared.standard.Standard.TheVariants.{IngressPort, EgressSpec, EgressPort, PacketLength, InstanceType}
use Rattle.p414_sem.specs.Slots.{Slot, standard, declared, Element}

-- a header, an element of a stack, or metadata
pub record Header : Type 0 where
  pub valid : Bool
  -- one for each field
  pub numbers : List ℕ

-- an instance: a stack with its elements and the place of the next one that is extracted, or one element at place 0
pub record Instance : Type 0 where
  pub elements : List Header
  pub place : ℕ

pub record State : Type 0 where
  pub instances : List Instance
  -- the octets that aren't parsed yet
  pub unparsed : List ℕ
  -- the fields of `standard_metadata`
  pub ingress_port : ℕ
  pub egress_spec : ℕ
  pub egress_port : ℕ
  pub packet_length : ℕ
  pub instance_type : ℕ
  -- the last request of each kind
  pub clone_i2e : Option Request14
  pub clone_e2e : Option Request14
  pub resubmit : Option Request14
  pub recirculate : Option Request14
  -- the applications of tables, in order
  pub events : List Event

-- parts of the map

abbrev pub no_header : Header
no_header = record { valid = false; numbers = [] }

abbrev pub no_instance : Instance
no_instance = record { elements = []; place = 0 }

abbrev pub instance_at : State → ℕ → Instance
instance_at s i = slice_index_or s.instances i no_instance

abbrev pub header_at : State → ℕ → ℕ → Header
header_at s i e = slice_index_or (instance_at s i).elements e no_header

abbrev pub is_valid : State → ℕ → ℕ → Bool
is_valid s i e = (header_at s i e).valid

-- the header, the element or the metadata that is meant
abbrev pub header_of : State → Element → Header
header_of s at = header_at s at.instance at.element

abbrev pub is_valid_at : State → Element → Bool
is_valid_at s at = is_valid s at.instance at.element

-- the elements of a stack, in order
abbrev pub elements_at : State → ℕ → List Header
elements_at s i = (instance_at s i).elements

abbrev pub place_of : State → ℕ → ℕ
place_of s i = (instance_at s i).place

-- the number of elements of a stack
abbrev pub size_of : State → ℕ → ℕ
size_of s i = length (instance_at s i).elements

abbrev pub standard_number : State → Standard → ℕ
standard_number s IngressPort = s.ingress_port
standard_number s EgressSpec = s.egress_spec
standard_number s EgressPort = s.egress_port
standard_number s PacketLength = s.packet_length
standard_number s InstanceType = s.instance_type

-- the number of a field; one of an invalid header reads 0
abbrev pub read : State → Slot → ℕ
read s (standard which) = standard_number s which
read s (declared i e f) = if is_valid s i e then slice_index (header_at s i e).numbers f else 0

-- the field's header is valid; `standard_metadata` always is
abbrev pub is_live : State → Slot → Bool
is_live s (standard which) = true
is_live s (declared i e f) = is_valid s i e

abbrev pub request_of : State → RequestKind → Option Request14
request_of s CloneI2E = s.clone_i2e
request_of s CloneE2E = s.clone_e2e
request_of s Resubmit = s.resubmit
request_of s Recirculate = s.recirculate

-- changes of one part

abbrev pub with_instance : State → ℕ → Instance → State
with_instance s i x = record s { instances = slice_set s.instances i x }

abbrev pub with_elements : State → ℕ → List Header → State
with_elements s i headers = with_instance s i (record { elements = headers; place = place_of s i })

abbrev pub with_header : State → ℕ → ℕ → Header → State
with_header s i e h = with_elements s i (slice_set (instance_at s i).elements e h)

abbrev pub with_place : State → ℕ → ℕ → State
with_place s i place = with_instance s i (record { elements = (instance_at s i).elements; place = place })

abbrev pub with_standard : State → Standard → ℕ → State
with_standard s IngressPort n = record s { ingress_port = n }
with_standard s EgressSpec n = record s { egress_spec = n }
with_standard s EgressPort n = record s { egress_port = n }
with_standard s PacketLength n = record s { packet_length = n }
with_standard s InstanceType n = record s { instance_type = n }

-- a header with another number in one field
abbrev pub with_field : Header → ℕ → ℕ → Header
with_field h f n = record { valid = h.valid; numbers = slice_set h.numbers f n }

-- a number written to a field: to one of an invalid header nothing is written
abbrev pub written : State → Slot → ℕ → State
written s (standard which) n = with_standard s which n
written s (declared i e f) n =
    if is_valid s i e then with_header s i e (with_field (header_at s i e) f n) else s

abbrev pub with_request : State → RequestKind → Option Request14 → State
with_request s CloneI2E r = record s { clone_i2e = r }
with_request s CloneE2E r = record s { clone_e2e = r }
with_request s Resubmit r = record s { resubmit = r }
with_request s Recirculate r = record s { recirculate = r }

abbrev pub with_event : State → Event → State
with_event s e = record s { events = s.events ++ e ∷ [] }

abbrev pub without_events : State → State
without_events s = record s { events = [] }

-- so many octets taken off the front of those that aren't parsed
abbrev pub skipped : State → ℕ → State
skipped s count = record s { unparsed = drop count s.unparsed }

-- a header with all fields 0, valid or not
abbrev pub cleared : Bool → Header → Header
cleared valid h = record { valid = valid; numbers = replicate (length h.numbers) 0 }

-- a header's validity: where it changes, its fields become 0, and else nothing does
abbrev pub is_same : Bool → Bool → Bool
is_same true b = b
is_same false b = not b

abbrev pub with_valid : State → ℕ → ℕ → Bool → State
with_valid s i e valid =
    if is_same (is_valid s i e) valid then s else with_header s i e (cleared valid (header_at s i e))

-- states in which nothing is parsed: all headers invalid, all stacks at place 0, all metadata 0

-- one element of so many fields
abbrev pub blank : Bool → ℕ → Header
blank valid fields = record { valid = valid; numbers = replicate fields 0 }

abbrev pub blank_instance : Bool → ℕ → ℕ → Instance
blank_instance valid elements fields = record { elements = replicate elements (blank valid fields); place = 0 }

abbrev pub new_instance : List Decl → Decl → Instance
new_instance ds (decl.Header x) = blank_instance false (elements_of x.size) (fields_of_type ds x.header_type)
new_instance ds (decl.Metadata x) = blank_instance true 1 (fields_of_type ds x.header_type)
new_instance ds _ = no_instance

-- an item with these octets that came in on this port, of this kind; all octets are unparsed, and nothing is requested
abbrev pub new_state : List Decl → List ℕ → ℕ → ℕ → State
new_state ds octets port kind = record {
  instances = map (new_instance ds) (declared_in sort.Instance ds);
  unparsed = octets;
  ingress_port = port;
  egress_spec = 0;
  egress_port = 0;
  packet_length = length octets % 2 ^ 32;
  instance_type = kind;
  clone_i2e = None;
  clone_e2e = None;
  resubmit = None;
  recirculate = None;
  events = [];
}

-- no request stands
abbrev pub without_requests : State → State
without_requests s = record s { clone_i2e = None; clone_e2e = None; resubmit = None; recirculate = None }
