-- The parts of a state beside its instances.
use Rattle.std.specs.Prelude.{ℕ, ◌<◌, ◌≤◌, ◌^◌, List, drop, length, map, Option}
use Rattle.fabric.specs.declared.items.Event.{Event}
use Rattle.fabric.specs.declared.items.RequestKind.{RequestKind}
use Rattle.fabric.specs.declared.items.RequestKind.TheVariants.{CloneI2E, CloneE2E, Resubmit, Recirculate}
use Rattle.p414_sem.specs.declared.requests.Request14.{Request14}
use Rattle.p414_sem.specs.declared.standard.Standard.{Standard}
use Rattle.p414_sem.specs.declared.standard.Standard.TheVariants.{IngressPort, EgressSpec, EgressPort, PacketLength, InstanceType}
use Rattle.p414_sem.specs.State.{Instance}
use Rattle.p414_layout.specs.declared.shape.Shape.{Shape}
use Rattle.p414_state.specs.declared.standard.StandardFields.{StandardFields}
use Rattle.p414_state.specs.declared.requests.Requests.{Requests}
use Rattle.p414_state.specs.Packets.{Packet}
use Rattle.p414_state.specs.internal.Cells.{Laid}

abbrev pub shape_of : Laid → Shape
shape_of l = l.shape

abbrev pub instance_of : Laid → Instance
instance_of l = l.instance

-- a packet by its parts
abbrev pub packet_with : List Shape → List Instance → List ℕ → ℕ → StandardFields → Requests → List Event → Packet
packet_with layout instances octets parsed standard requests events = record {
  layout = layout;
  state =
      record {
        instances = instances;
        unparsed = drop parsed octets;
        ingress_port = standard.ingress_port;
        egress_spec = standard.egress_spec;
        egress_port = standard.egress_port;
        packet_length = standard.packet_length;
        instance_type = standard.instance_type;
        clone_i2e = requests.clone_i2e;
        clone_e2e = requests.clone_e2e;
        resubmit = requests.resubmit;
        recirculate = requests.recirculate;
        events = events;
      };
}

abbrev pub packet_of : List Laid → List ℕ → ℕ → StandardFields → Requests → List Event → Packet
packet_of instances octets parsed standard requests events =
    packet_with (map shape_of instances) (map instance_of instances) octets parsed standard requests events

-- parts by what names them

abbrev pub standard_in : StandardFields → Standard → ℕ
standard_in s IngressPort = s.ingress_port
standard_in s EgressSpec = s.egress_spec
standard_in s EgressPort = s.egress_port
standard_in s PacketLength = s.packet_length
standard_in s InstanceType = s.instance_type

abbrev pub with_standard_in : StandardFields → Standard → ℕ → StandardFields
with_standard_in s IngressPort n = record s { ingress_port = n }
with_standard_in s EgressSpec n = record s { egress_spec = n }
with_standard_in s EgressPort n = record s { egress_port = n }
with_standard_in s PacketLength n = record s { packet_length = n }
with_standard_in s InstanceType n = record s { instance_type = n }

abbrev pub request_in : Requests → RequestKind → Option Request14
request_in r CloneI2E = r.clone_i2e
request_in r CloneE2E = r.clone_e2e
request_in r Resubmit = r.resubmit
request_in r Recirculate = r.recirculate

abbrev pub with_request_in : Requests → RequestKind → Option Request14 → Requests
with_request_in r CloneI2E request = record r { clone_i2e = request }
with_request_in r CloneE2E request = record r { clone_e2e = request }
with_request_in r Resubmit request = record r { resubmit = request }
with_request_in r Recirculate request = record r { recirculate = request }

-- each field of `standard_metadata` is within its width
pub record AreStandard (s : StandardFields) : Type 0 where
  pub ingress_port : s.ingress_port < 2 ^ 9
  pub egress_spec : s.egress_spec < 2 ^ 9
  pub egress_port : s.egress_port < 2 ^ 9
  pub packet_length : s.packet_length < 2 ^ 32
  pub instance_type : s.instance_type < 2 ^ 32

pub record AreParts (octets : List ℕ) (parsed : ℕ) (s : StandardFields) : Type 0 where
  pub within : parsed ≤ length octets
  pub standard : AreStandard s
