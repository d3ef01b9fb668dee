-- Standard metadata by itself, as it is written between the blocks.
use Rattle.std.proofs.Common.{◌≡◌, ℕ, ◌<◌, ◌^◌, [], None, refl, sym, ap, ◌∙◌, arith}
use Rattle.std.proofs.Math.Nat.{mod-eq_of_lt}
use Rattle.fabric.specs.declared.items.RequestKind.{RequestKind}
use Rattle.fabric.specs.declared.items.RequestKind.TheVariants.{CloneI2E, CloneE2E, Resubmit, Recirculate}
use Rattle.p414_sem.specs.declared.standard.Standard.{Standard}
use Rattle.p414_sem.specs.declared.standard.Standard.TheVariants.{IngressPort, EgressSpec, EgressPort, PacketLength, InstanceType}
use Rattle.p414_sem.specs.Slots.{standard}
use Rattle.p414_sem.specs.State.{State, standard_number, with_standard as with_standard14, request_of as request14}
use Rattle.p416_syntax.specs.Names.{Name}
use Rattle.v1_core.specs.Values.{Value, a_number, member_in}
use Rattle.v1_core.specs.Frames.{Frame, with_standard, request_of as request16}
use Rattle.agreement_of_meanings.specs.Shown.{NamesDiffer, standard_word, standard_width}
use Rattle.agreement_of_meanings.specs.Agrees.{NewNames, Agrees, RequestsAgree}
use Rattle.agreement_of_meanings.proofs.Written.{slot_put}
use Rattle.agreement_of_meanings.specs.Shown.{Shown, as_header, as_stack, as_metadata, shown_at, slot_reference}
use Rattle.agreement_of_meanings.proofs.Names.{is_there, put_is, member_other, differ_names}
use Rattle.v1_core.specs.Frames.{of_standard, write}
use Rattle.v1_core.specs.Values.{fitted, part_of, to_member}
use Rattle.std.proofs.Common.{◌≢◌, ◌∷◌}
use Rattle.std.specs.Prelude.{codes}
use Rattle.p414_sem.specs.Slots.{Slot, declared}
use Rattle.lower_laws_base.specs.Context.{StateLayout}
use Rattle.lower_laws_base.proofs.States.{members_put}
use Rattle.lower_laws_passes.specs.Held.{StandardIs}

-- a word of standard metadata that P4_14 doesn't know
pub record IsOther (text : Name) : Type 0 where
  pub other : (which : Standard) → standard_word which ≢ text

pub parser_error_other : IsOther (codes "parser_error")
parser_error_other = record { other = each } where
  each : (which : Standard) → standard_word which ≢ codes "parser_error"
  each IngressPort = differ_names (codes "ingress_port") (codes "parser_error") refl
  each EgressSpec = differ_names (codes "egress_spec") (codes "parser_error") refl
  each EgressPort = differ_names (codes "egress_port") (codes "parser_error") refl
  each PacketLength = differ_names (codes "packet_length") (codes "parser_error") refl
  each InstanceType = differ_names (codes "instance_type") (codes "parser_error") refl

pub checksum_error_other : IsOther (codes "checksum_error")
checksum_error_other = record { other = each } where
  each : (which : Standard) → standard_word which ≢ codes "checksum_error"
  each IngressPort = differ_names (codes "ingress_port") (codes "checksum_error") refl
  each EgressSpec = differ_names (codes "egress_spec") (codes "checksum_error") refl
  each EgressPort = differ_names (codes "egress_port") (codes "checksum_error") refl
  each PacketLength = differ_names (codes "packet_length") (codes "checksum_error") refl
  each InstanceType = differ_names (codes "instance_type") (codes "checksum_error") refl

-- a write to a slot leaves it
pub word_kept : (names : NewNames) (s : State) (f : Frame) (slot : Slot) (v : Value) (text : Name) → IsOther text → Agrees names s f → member_in (write (slot_reference names.instances slot) v f).standard text ≡ member_in f.standard text
word_kept names s f (standard which) v text other agrees =
    let word = standard_word which in
    let new = fitted (part_of f.standard (to_member word)) v in
    ap (λ z. member_in z text) (put_is f.standard word new (ap is_there (agrees.standard which))) ∙ member_other f.standard word text new (other.other which)
word_kept names s f (declared i e k) v text other agrees = by (shown_at names.instances i) where
  by : (x : Shown) → member_in (write (slot_reference (x ∷ []) (declared 0 e k)) v f).standard text ≡ member_in f.standard text
  by (as_header called fields) = refl
  by (as_stack called fields) = refl
  by (as_metadata called fields) = refl

-- the five numbers
abbrev pub StandardsAre : State → Value → Type 0
StandardsAre s v = (which : Standard) → member_in v (standard_word which) ≡ a_number (standard_width which) (standard_number s which)

-- a state and a frame of no instance, with these

abbrev bare_state : State → State
bare_state s = record s { instances = []; clone_i2e = None; clone_e2e = None; resubmit = None; recirculate = None }

abbrev bare_frame : Frame → Frame
bare_frame f = record f { clone_i2e = None; clone_e2e = None; resubmit = None; recirculate = None }

abbrev no_names : NewNames
no_names = record { instances = []; marks = [] }

none_differ : NamesDiffer []
none_differ = record { instances = λ j k a b. absurd (omega (arith, a)); fields = λ k a. absurd (omega (arith, a)) }

same_standards : (s : State) (which : Standard) → standard_number (bare_state s) which ≡ standard_number s which
same_standards s IngressPort = refl
same_standards s EgressSpec = refl
same_standards s EgressPort = refl
same_standards s PacketLength = refl
same_standards s InstanceType = refl

nothing_asked : (s : State) (f : Frame) (kind : RequestKind) → RequestsAgree [] (request14 (bare_state s) kind) (request16 (bare_frame f) kind)
nothing_asked s f CloneI2E = tt
nothing_asked s f CloneE2E = tt
nothing_asked s f Resubmit = tt
nothing_asked s f Recirculate = tt

bare : (s : State) (f : Frame) → StandardsAre s f.standard → Agrees no_names (bare_state s) (bare_frame f)
bare s f are = record {
  instances = record { count = refl; each = λ k lt. absurd (omega (arith, lt)) };
  standard = λ which. are which ∙ ap (a_number (standard_width which)) (sym (same_standards s which));
  requests = nothing_asked s f;
}

put_numbers : (s : State) (which other : Standard) (n : ℕ) → standard_number (with_standard14 (bare_state s) which n) other ≡ standard_number (with_standard14 s which n) other
put_numbers s IngressPort IngressPort n = refl
put_numbers s IngressPort EgressSpec n = refl
put_numbers s IngressPort EgressPort n = refl
put_numbers s IngressPort PacketLength n = refl
put_numbers s IngressPort InstanceType n = refl
put_numbers s EgressSpec IngressPort n = refl
put_numbers s EgressSpec EgressSpec n = refl
put_numbers s EgressSpec EgressPort n = refl
put_numbers s EgressSpec PacketLength n = refl
put_numbers s EgressSpec InstanceType n = refl
put_numbers s EgressPort IngressPort n = refl
put_numbers s EgressPort EgressSpec n = refl
put_numbers s EgressPort EgressPort n = refl
put_numbers s EgressPort PacketLength n = refl
put_numbers s EgressPort InstanceType n = refl
put_numbers s PacketLength IngressPort n = refl
put_numbers s PacketLength EgressSpec n = refl
put_numbers s PacketLength EgressPort n = refl
put_numbers s PacketLength PacketLength n = refl
put_numbers s PacketLength InstanceType n = refl
put_numbers s InstanceType IngressPort n = refl
put_numbers s InstanceType EgressSpec n = refl
put_numbers s InstanceType EgressPort n = refl
put_numbers s InstanceType PacketLength n = refl
put_numbers s InstanceType InstanceType n = refl

-- one of them is written
pub put_standard : (s : State) (f : Frame) (which : Standard) (width n : ℕ) → n < 2 ^ standard_width which → StandardsAre s f.standard → StandardsAre (with_standard14 s which n) (with_standard (standard_word which) (a_number width n) f).standard
put_standard s f which width n fits are other =
    (slot_put no_names (bare_state s) (bare_frame f) (standard which) (a_number width n) none_differ (bare s f are) tt).standard other
    ∙ ap (a_number (standard_width other)) (ap (λ k. standard_number (with_standard14 (bare_state s) which k) other) (mod-eq_of_lt fits) ∙ put_numbers s which other n)

-- another word stays
pub put_other : (s : State) (f : Frame) (which : Standard) (v : Value) (text : Name) → IsOther text → StandardsAre s f.standard → member_in (with_standard (standard_word which) v f).standard text ≡ member_in f.standard text
put_other s f which v text other are = word_kept no_names (bare_state s) (bare_frame f) (standard which) v text other (bare s f are)

-- one of them is written, and nothing else changes
pub put_number : (g : StateLayout) (s : State) (error checksum : ℕ) (f : Frame) (which : Standard) (width n : ℕ) → n < 2 ^ standard_width which → StandardIs g s error checksum f.standard → StandardIs g (with_standard14 s which n) error checksum (with_standard (standard_word which) (a_number width n) f).standard
put_number g s error checksum f which width n fits is = record {
  numbers = put_standard s f which width n fits is.numbers;
  error_is = put_other s f which (a_number width n) (codes "parser_error") parser_error_other is.numbers ∙ is.error_is;
  checksum_is = put_other s f which (a_number width n) (codes "checksum_error") checksum_error_other is.numbers ∙ is.checksum_is;
  members = members_put (g.members of_standard) f.standard (standard_word which) _ is.members;
}

-- another state with the same numbers
pub standard_like : (g : StateLayout) (s t : State) (error checksum : ℕ) (v : Value) → ((which : Standard) → standard_number s which ≡ standard_number t which) → StandardIs g s error checksum v → StandardIs g t error checksum v
standard_like g s t error checksum v same is = record {
  numbers = λ which. is.numbers which ∙ ap (a_number (standard_width which)) (same which);
  error_is = is.error_is;
  checksum_is = is.checksum_is;
  members = is.members;
}
