-- A state of a program by its parts, so that a law names the part that changes.
use Rattle.std.specs.Prelude.{ℕ, ◌<◌, ◌^◌, Option, List, All, IfSome}
use Rattle.std.specs.List.{AllZip}
use Rattle.std.proofs.lemmas.List.Elements.{All-push}
use Rattle.p4x_bits.specs.BitLists.{IsOctets}
use Rattle.fabric.specs.declared.items.Event.{Event}
use Rattle.p414_syntax.specs.declared.syntax.Decl.{Decl}
use Rattle.p414_syntax.specs.declared.syntax.Sort.TheVariants as sort
use Rattle.p414_syntax.specs.Names.{declared_in}
use Rattle.p414_sem.specs.declared.requests.Request14.{Request14}
use Rattle.p414_sem.specs.State.{State, with_event}
use Rattle.p414_sem.specs.Fitting.{FitsInstance, FitsRequest, FitsEvent, IsState}

pub record FitNumbers (ingress_port egress_spec egress_port packet_length instance_type : ℕ) : Type 0 where
  pub arrived : ingress_port < 2 ^ 9
  pub spec : egress_spec < 2 ^ 9
  pub left : egress_port < 2 ^ 9
  pub long : packet_length < 2 ^ 32
  pub kind : instance_type < 2 ^ 32

pub record FitRequests (ds : List Decl) (clone_i2e clone_e2e resubmit recirculate : Option Request14) : Type 0 where
  pub i2e : IfSome clone_i2e (FitsRequest ds)
  pub e2e : IfSome clone_e2e (FitsRequest ds)
  pub again : IfSome resubmit (FitsRequest ds)
  pub round : IfSome recirculate (FitsRequest ds)

module _ (ds : List Decl) (s : State) where
  pub rebuilt : AllZip (FitsInstance ds) (declared_in sort.Instance ds) s.instances → IsOctets s.unparsed → FitNumbers s.ingress_port s.egress_spec s.egress_port s.packet_length s.instance_type → FitRequests ds s.clone_i2e s.clone_e2e s.resubmit s.recirculate → All FitsEvent s.events → IsState ds s
  rebuilt instances octets n r e = record {
    instances = instances;
    unparsed = octets;
    ingress_port = n.arrived;
    egress_spec = n.spec;
    egress_port = n.left;
    packet_length = n.long;
    instance_type = n.kind;
    clone_i2e = r.i2e;
    clone_e2e = r.e2e;
    resubmit = r.again;
    recirculate = r.round;
    events = e;
  }

  pub numbers : IsState ds s → FitNumbers s.ingress_port s.egress_spec s.egress_port s.packet_length s.instance_type
  numbers is = record {
    arrived = is.ingress_port;
    spec = is.egress_spec;
    left = is.egress_port;
    long = is.packet_length;
    kind = is.instance_type;
  }

  pub requests : IsState ds s → FitRequests ds s.clone_i2e s.clone_e2e s.resubmit s.recirculate
  requests is = record {
    i2e = is.clone_i2e;
    e2e = is.clone_e2e;
    again = is.resubmit;
    round = is.recirculate;
  }

-- an application of a table is noted
pub with_event_fits : (ds : List Decl) (s : State) (e : Event) → IsState ds s → FitsEvent e → IsState ds (with_event s e)
with_event_fits ds s e state fits =
    rebuilt ds (with_event s e) state.instances state.unparsed (numbers ds s state) (requests ds s state) (All-push FitsEvent s.events e state.events fits)
