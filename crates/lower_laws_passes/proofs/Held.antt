-- What is held between ingress and egress.
use Rattle.std.proofs.Common.{◌≡◌, ℕ, ◌<◌, ◌^◌, List, [], get_or, refl, sym, ◌∙◌, subst, arith}
use Rattle.std.specs.Prelude.{codes}
use Rattle.std.proofs.lemmas.Nat.{pow_pos}
use Rattle.state_store.specs.State.{Contents}
use Rattle.fabric.specs.declared.items.RequestKind.{RequestKind}
use Rattle.fabric.specs.declared.items.RequestKind.TheVariants.{CloneI2E, CloneE2E, Resubmit, Recirculate}
use Rattle.p414_sem.specs.declared.standard.Standard.{Standard}
use Rattle.p414_sem.specs.declared.standard.Standard.TheVariants.{IngressPort, EgressSpec, EgressPort, PacketLength, InstanceType}
use Rattle.p414_sem.specs.State.{Instance, State, no_instance, standard_number, with_standard as with_standard14, without_requests, request_of as request14}
use Rattle.p414_sem.specs.Effects.{Moment as Moment14}
use Rattle.p414_sem.specs.Passes.{egress_begins}
use Rattle.v1_core.specs.Values.{a_number, no_members}
use Rattle.v1_core.specs.Frames.{Frame, Moment, Owner, of_headers, of_metadata, of_standard, of_variables, of_inner, of_nothing, owned, with_standard, without_requests_and_events, request_of as request16}
use Rattle.v1_core.specs.Passes.{Between, Held, moment_of, egress_frame, handed_on}
use Rattle.agreement_of_meanings.specs.Shown.{AreShown, standard_width, shown_at}
use Rattle.agreement_of_meanings.specs.Agrees.{RequestsAgree}
use Rattle.agreement_of_meanings.proofs.Written.{shown_stays}
use Rattle.lower_laws_base.specs.Context.{StateLayout, HasRoot, HasMembers, Shaped, Stored}
use Rattle.lower_laws_base.proofs.Shapes.{shaped_like}
use Rattle.lower_laws_base.specs.Between.{between, Beside, ErrorIs, IsAny}
use Rattle.lower_laws_passes.specs.Held.{StandardIs, FrameStands, HeldAlive}
use Rattle.lower_laws_passes.proofs.Standards.{StandardsAre, put_standard, put_other, parser_error_other, put_number, standard_like}

-- frames and moments

shown_same : (g : StateLayout) (l : List Instance) (f h : Frame) → f.headers ≡ h.headers → f.metadata ≡ h.metadata → AreShown g.names.instances l f → AreShown g.names.instances l h
shown_same g l f h headers metadata are = record {
  count = are.count;
  each = λ k lt. shown_stays f h (shown_at g.names.instances k) (get_or l k no_instance) headers metadata (are.each k lt);
}

-- the same packet but for standard metadata
pub frame_like : (g : StateLayout) (s t : State) (f h : Frame) → FrameStands g s f → t.instances ≡ s.instances → ((which : Standard) → standard_number t which < 2 ^ standard_width which) → StandardIs g t 0 0 h.standard → h.headers ≡ f.headers → h.metadata ≡ f.metadata → h.variables ≡ no_members → h.inner ≡ no_members → FrameStands g t h
frame_like g s t f h stands same fits standard headers metadata variables inner = record {
  instances = subst (λ (l : List Instance). AreShown g.names.instances l h) (sym same) (shown_same g s.instances f h (sym headers) (sym metadata) stands.instances);
  shaped = shaped_like (between g) s stands.shaped t same fits;
  standard = standard;
  headers = subst (HasMembers (g.members of_headers)) (sym headers) stands.headers;
  metadata = subst (HasMembers (g.members of_metadata)) (sym metadata) stands.metadata;
  variables = variables;
  inner = inner;
}

pub frame_of : (g : StateLayout) (x : Moment14) (m : Moment) → Beside g 0 0 x m → FrameStands g x.state m.frame
frame_of g x m beside = record {
  instances = beside.both.packet.agrees.instances;
  shaped = beside.shaped;
  standard = record { numbers = beside.both.packet.agrees.standard; error_is = beside.error; checksum_is = beside.checksum; members = beside.members of_standard refl };
  headers = beside.members of_headers refl;
  metadata = beside.members of_metadata refl;
  variables = beside.variables.is;
  inner = beside.inner;
}

-- as a block begins
pub beside_of : (g : StateLayout) (s : State) (store : Contents) (b : Between) (f : Frame) (unparsed : List ℕ) → FrameStands g s f → Stored g.shapes store → b.store ≡ store → unparsed ≡ s.unparsed → f.events ≡ s.events → ((kind : RequestKind) → RequestsAgree g.names.marks (request14 s kind) (request16 f kind)) → Beside g 0 0 (record { state = s; store = store }) (moment_of b f unparsed)
beside_of g s store b f unparsed stands stored same left events requests = record {
  both = record {
    packet = record {
      agrees = record { instances = stands.instances; standard = stands.standard.numbers; requests = requests };
      unparsed = left;
      events = events;
      runs = refl;
    };
    store = same;
  };
  shaped = stands.shaped;
  stored = stored;
  inner = stands.inner;
  count = refl;
  variables = record { values = []; count = refl; is = stands.variables; whole = λ j lt. absurd (omega (arith, lt)) };
  members = members;
  error = stands.standard.error_is;
  checksum = stands.standard.checksum_is;
  emitted = refl;
  hit = refl;
} where
  members : (o : Owner) → HasRoot (between g) o → HasMembers (g.members o) (owned f o)
  members of_headers is = stands.headers
  members of_metadata is = stands.metadata
  members of_standard is = stands.standard.members
  members of_variables is = absurd is
  members of_inner is = absurd is
  members of_nothing is = absurd is

-- what is held

module _ (g : StateLayout) where
  -- behind a block or a parser
  pub alive_of : (x : Moment14) (m : Moment) (port : ℕ) → Beside g 0 0 x m → port ≡ x.state.ingress_port → HeldAlive g x.state (handed_on port m)
  alive_of x m port beside arrived =
      let stands = frame_of g x m beside in
      record {
        stands = frame_like g x.state x.state m.frame (without_requests_and_events m.frame) stands refl stands.shaped.standard stands.standard refl refl stands.variables stands.inner;
        unparsed = beside.both.packet.unparsed;
        port = arrived;
      }

  abbrev handed : State → State
  handed s = record (without_requests s) { events = [] }

  handed_numbers : (s : State) (which : Standard) → standard_number s which ≡ standard_number (handed s) which
  handed_numbers s IngressPort = refl
  handed_numbers s EgressSpec = refl
  handed_numbers s EgressPort = refl
  handed_numbers s PacketLength = refl
  handed_numbers s InstanceType = refl

  pub alive_handed : (s : State) (k : Held) → HeldAlive g s k → HeldAlive g (handed s) k
  alive_handed s k alive = record {
    stands = frame_like g s (handed s) k.frame k.frame alive.stands refl (λ which. subst (λ n. n < 2 ^ standard_width which) (handed_numbers s which) (alive.stands.shaped.standard which)) (standard_like g s (handed s) 0 0 k.frame.standard (handed_numbers s) alive.stands.standard) refl refl alive.stands.variables alive.stands.inner;
    unparsed = alive.unparsed;
    port = alive.port;
  }

  pub any_of : (s : State) (f : Frame) → StandardsAre s f.standard → f.variables ≡ no_members → f.inner ≡ no_members → IsAny f
  any_of s f are variables inner = record { numbers = λ which. (standard_number s which, are which); variables = variables; inner = inner }

  -- egress begins

  module _ (s : State) (k : Held) (port kind : ℕ) (port_fits : port < 2 ^ 9) (kind_fits : kind < 2 ^ 32) where
    abbrev f0 : Frame
    f0 = without_requests_and_events k.frame

    abbrev f1 : Frame
    f1 = with_standard (codes "instance_type") (a_number 32 kind) f0

    abbrev f2 : Frame
    f2 = with_standard (codes "egress_port") (a_number 9 port) f1

    abbrev s1 : State
    s1 = with_standard14 s InstanceType kind

    abbrev s2 : State
    s2 = with_standard14 s1 EgressPort port

    abbrev s3 : State
    s3 = with_standard14 s2 EgressSpec 0

    pub egress_numbers : StandardsAre s k.frame.standard → StandardsAre s3 (egress_frame k port kind).standard
    egress_numbers are = put_standard s2 f2 EgressSpec 9 0 (pow_pos 9) (put_standard s1 f1 EgressPort 9 port port_fits (put_standard s f0 InstanceType 32 kind kind_fits are))

    pub egress_error : StandardsAre s k.frame.standard → (n : ℕ) → ErrorIs k.frame n → ErrorIs (egress_frame k port kind) n
    egress_error are n was =
        let numbers1 = put_standard s f0 InstanceType 32 kind kind_fits are in
        put_other s2 f2 EgressSpec (a_number 9 0) (codes "parser_error") parser_error_other (put_standard s1 f1 EgressPort 9 port port_fits numbers1)
        ∙ put_other s1 f1 EgressPort (a_number 9 port) (codes "parser_error") parser_error_other numbers1
        ∙ put_other s f0 InstanceType (a_number 32 kind) (codes "parser_error") parser_error_other are ∙ was

    begun_numbers : (which : Standard) → standard_number s3 which ≡ standard_number (egress_begins s port kind) which
    begun_numbers IngressPort = refl
    begun_numbers EgressSpec = refl
    begun_numbers EgressPort = refl
    begun_numbers PacketLength = refl
    begun_numbers InstanceType = refl

    begun_fit : Shaped (between g) s → (which : Standard) → standard_number (egress_begins s port kind) which < 2 ^ standard_width which
    begun_fit shaped IngressPort = shaped.standard IngressPort
    begun_fit shaped EgressSpec = pow_pos 9
    begun_fit shaped EgressPort = port_fits
    begun_fit shaped PacketLength = shaped.standard PacketLength
    begun_fit shaped InstanceType = kind_fits

    no_requests : (r : RequestKind) → RequestsAgree g.names.marks (request14 (egress_begins s port kind) r) (request16 (egress_frame k port kind) r)
    no_requests CloneI2E = tt
    no_requests CloneE2E = tt
    no_requests Resubmit = tt
    no_requests Recirculate = tt

    pub egress_alive : (b : Between) (store : Contents) → Stored g.shapes store → b.store ≡ store → HeldAlive g s k → Beside g 0 0 (record { state = egress_begins s port kind; store = store }) (moment_of b (egress_frame k port kind) k.unparsed)
    egress_alive b store stored same alive =
        beside_of g (egress_begins s port kind) store b (egress_frame k port kind) k.unparsed
        (frame_like g s (egress_begins s port kind) k.frame (egress_frame k port kind) alive.stands refl (begun_fit alive.stands.shaped)
        (standard_like g s3 (egress_begins s port kind) 0 0 (egress_frame k port kind).standard begun_numbers
        (put_number g s2 0 0 f2 EgressSpec 9 0 (pow_pos 9) (put_number g s1 0 0 f1 EgressPort 9 port port_fits (put_number g s 0 0 f0 InstanceType 32 kind kind_fits alive.stands.standard))))
        refl refl alive.stands.variables alive.stands.inner)
        stored same alive.unparsed refl no_requests
