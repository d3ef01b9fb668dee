-- The parts of a packet beside its instances.
use Rattle.std.proofs.Common.{◌≡◌, ℕ, List, Option, refl}
use Rattle.fabric.specs.declared.items.Event.{Event}
use Rattle.fabric.specs.declared.items.RequestKind.{RequestKind}
use Rattle.fabric.specs.declared.items.RequestKind.TheVariants.{CloneI2E, CloneE2E, Resubmit, Recirculate}
use Rattle.p414_sem.specs.declared.requests.Request14.{Request14}
use Rattle.p414_sem.specs.declared.standard.Standard.{Standard}
use Rattle.p414_sem.specs.declared.standard.Standard.TheVariants.{IngressPort, EgressSpec, EgressPort, PacketLength, InstanceType}
use Rattle.p414_sem.specs.State.{standard_number, request_of, with_standard, with_request}
use Rattle.p414_state.specs.declared.standard.StandardFields.{StandardFields}
use Rattle.p414_state.specs.declared.requests.Requests.{Requests}
use Rattle.p414_state.specs.Packets.{with_state}
use Rattle.p414_state.specs.internal.Cells.{Laid}
use Rattle.p414_state.specs.internal.Parts.{packet_of, standard_in, with_standard_in, request_in, with_request_in}

module _ (instances : List Laid) (octets : List ℕ) (parsed : ℕ) (events : List Event) where
  pub request_is : (standard : StandardFields) (requests : Requests) (kind : RequestKind) → request_in requests kind ≡ request_of (packet_of instances octets parsed standard requests events).state kind
  request_is standard requests CloneI2E = refl
  request_is standard requests CloneE2E = refl
  request_is standard requests Resubmit = refl
  request_is standard requests Recirculate = refl

  pub request_put : (standard : StandardFields) (requests : Requests) (kind : RequestKind) (request : Option Request14) → packet_of instances octets parsed standard (with_request_in requests kind request) events ≡ with_state (packet_of instances octets parsed standard requests events) (with_request (packet_of instances octets parsed standard requests events).state kind request)
  request_put standard requests CloneI2E request = refl
  request_put standard requests CloneE2E request = refl
  request_put standard requests Resubmit request = refl
  request_put standard requests Recirculate request = refl

  pub standard_is : (standard : StandardFields) (requests : Requests) (field : Standard) → standard_in standard field ≡ standard_number (packet_of instances octets parsed standard requests events).state field
  standard_is standard requests IngressPort = refl
  standard_is standard requests EgressSpec = refl
  standard_is standard requests EgressPort = refl
  standard_is standard requests PacketLength = refl
  standard_is standard requests InstanceType = refl

  pub standard_put : (standard : StandardFields) (requests : Requests) (field : Standard) (n : ℕ) → packet_of instances octets parsed (with_standard_in standard field n) requests events ≡ with_state (packet_of instances octets parsed standard requests events) (with_standard (packet_of instances octets parsed standard requests events).state field n)
  standard_put standard requests IngressPort n = refl
  standard_put standard requests EgressSpec n = refl
  standard_put standard requests EgressPort n = refl
  standard_put standard requests PacketLength n = refl
  standard_put standard requests InstanceType n = refl
