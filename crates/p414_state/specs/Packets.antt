-- A state of a packet together with what its instances are made of, which never changes (P4_14 1.0.5, "Headers and
-- Fields", "Standard Intrinsic Metadata").
use Rattle.std.specs.Prelude.{◌≡◌, ℕ, ◌%◌, ◌^◌, false, if◌then◌else◌, List, [], ◌∷◌, length, map, slice_index, None}
use Rattle.p414_sem.specs.declared.standard.Standard.{Standard}
use Rattle.p414_sem.specs.declared.standard.Standard.TheVariants.{IngressPort, EgressSpec, EgressPort, PacketLength, InstanceType}
use Rattle.p414_sem.specs.State.{Instance, State, cleared}
use Rattle.p414_layout.specs.declared.shape.Shape.{Shape}
use Rattle.p414_layout.specs.Shapes.{shape_at, blank_of}

pub record Packet : Type 0 where
  pub layout : List Shape
  pub state : State

abbrev pub with_state : Packet → State → Packet
with_state p s = record { layout = p.layout; state = s }

-- an item of these octets, that came in on this port, of this kind; nothing is parsed and nothing is requested
abbrev pub new_packet : List Shape → List ℕ → ℕ → ℕ → Packet
new_packet layout octets port kind = record {
  layout = layout;
  state =
      record {
        instances = map blank_of layout;
        unparsed = octets;
        ingress_port = port;
        egress_spec = 0;
        egress_port = 0;
        packet_length = length octets % 2 ^ 32;
        instance_type = kind;
        clone_i2e = None;
        clone_e2e = None;
        resubmit = None;
        recirculate = None;
        events = [];
      };
}

-- the instance is no metadata
pub record IsHeader (layout : List Shape) (i : ℕ) : Type 0 where
  pub header : (shape_at layout i).metadata ≡ false

-- the bits of a field
abbrev pub width_at : List Shape → ℕ → ℕ → ℕ
width_at layout i f = slice_index (shape_at layout i).widths f

-- the bits of a field of `standard_metadata`
abbrev pub standard_bits : Standard → ℕ
standard_bits IngressPort = 9
standard_bits EgressSpec = 9
standard_bits EgressPort = 9
standard_bits PacketLength = 32
standard_bits InstanceType = 32

-- All headers invalid with fields 0, and all stacks at place 0; metadata stays.
abbrev pub begun_one : Shape → Instance → Instance
begun_one s i =
    if s.metadata then i else record { elements = map (cleared false) i.elements; place = 0 }

abbrev pub begun_all : List Shape → List Instance → List Instance
begun_all [] instances = []
begun_all (s ∷ shapes) [] = []
begun_all (s ∷ shapes) (i ∷ instances) = begun_one s i ∷ begun_all shapes instances

abbrev pub with_headers_begun : Packet → State
with_headers_begun p = record p.state { instances = begun_all p.layout p.state.instances }
