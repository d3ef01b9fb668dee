-- A number is written to a field, and what a field keeps of a number fits it.
use Rattle.std.proofs.Common.{◌≡◌, ℕ, ◌<◌, ◌^◌, Bool, true, false, cond, Option, List, [], refl, subst, arith}
use Rattle.std.specs.Prelude.{ℤ, pos, negsuc, ◌-◌, IfSome, slice_index}
use Rattle.std.specs.Option.{option_map_or}
use Rattle.std.proofs.Math.Nat.{min-le_right}
use Rattle.std.proofs.lemmas.Nat.{pow_pos, mod_below}
use Rattle.fabric.specs.declared.items.RequestKind.{RequestKind}
use Rattle.fabric.specs.declared.items.RequestKind.TheVariants.{CloneI2E, CloneE2E, Resubmit, Recirculate}
use Rattle.p414_syntax.specs.declared.syntax.Decl.{Decl}
use Rattle.p414_sem.specs.declared.requests.Request14.{Request14}
use Rattle.p414_sem.specs.declared.standard.Standard.{Standard}
use Rattle.p414_sem.specs.declared.standard.Standard.TheVariants.{IngressPort, EgressSpec, EgressPort, PacketLength, InstanceType}
use Rattle.p414_sem.specs.Wholes.{wrapped, nearest, kept}
use Rattle.p414_sem.specs.Slots.{Slot, standard, declared}
use Rattle.p414_sem.specs.State.{State, is_valid, header_at, with_header, with_field, with_standard, with_request, written}
use Rattle.p414_sem.specs.Fitting.{FitsRequest, IsState}
use Rattle.lower_laws_states.specs.Fits.{widths_in, slot_bits, standard_bits}
use Rattle.lower_laws_states.proofs.States.{FitNumbers, rebuilt, numbers, requests}
use Rattle.lower_laws_states.proofs.Instances.{kept_header, with_field_fits}

-- numbers

pub wrapped_below : (width : ℕ) (z : ℤ) → wrapped width z < 2 ^ width
wrapped_below width (pos n) = mod_below n (2 ^ width) (pow_pos width)
wrapped_below width (negsuc n) = omega (arith, pow_pos width)

nearest_below : (width : ℕ) (z : ℤ) → nearest width z < 2 ^ width
nearest_below width (pos n) = omega (arith, pow_pos width, min-le_right n (2 ^ width - 1))
nearest_below width (negsuc n) = pow_pos width

pub kept_below : (saturates : Bool) (width : ℕ) (z : ℤ) → kept saturates width z < 2 ^ width
kept_below true width z = nearest_below width z
kept_below false width z = wrapped_below width z

-- fields

module _ (ds : List Decl) (s : State) (state : IsState ds s) where
  pub with_standard_fits : (which : Standard) (n : ℕ) → n < 2 ^ standard_bits which → IsState ds (with_standard s which n)
  with_standard_fits which n lt = by which lt where
    put : (t : State) → FitNumbers t.ingress_port t.egress_spec t.egress_port t.packet_length t.instance_type → IsState ds (record s { ingress_port = t.ingress_port; egress_spec = t.egress_spec; egress_port = t.egress_port; packet_length = t.packet_length; instance_type = t.instance_type })
    put t fit = rebuilt ds _ state.instances state.unparsed fit (requests ds s state) state.events

    fit : FitNumbers s.ingress_port s.egress_spec s.egress_port s.packet_length s.instance_type
    fit = numbers ds s state

    by : (which : Standard) → n < 2 ^ standard_bits which → IsState ds (with_standard s which n)
    by IngressPort lt = put (record s { ingress_port = n }) (record { arrived = lt; spec = fit.spec; left = fit.left; long = fit.long; kind = fit.kind })
    by EgressSpec lt = put (record s { egress_spec = n }) (record { arrived = fit.arrived; spec = lt; left = fit.left; long = fit.long; kind = fit.kind })
    by EgressPort lt = put (record s { egress_port = n }) (record { arrived = fit.arrived; spec = fit.spec; left = lt; long = fit.long; kind = fit.kind })
    by PacketLength lt = put (record s { packet_length = n }) (record { arrived = fit.arrived; spec = fit.spec; left = fit.left; long = lt; kind = fit.kind })
    by InstanceType lt = put (record s { instance_type = n }) (record { arrived = fit.arrived; spec = fit.spec; left = fit.left; long = fit.long; kind = lt })

  pub written_fits : (slot : Slot) (n : ℕ) → n < 2 ^ slot_bits ds slot → IsState ds (written s slot n)
  written_fits (standard which) n lt = with_standard_fits which n lt
  written_fits (declared i e f) n lt = by (is_valid s i e) refl where
    by : (b : Bool) → is_valid s i e ≡ b → IsState ds (cond b (with_header s i e (with_field (header_at s i e) f n)) s)
    by true valid =
        kept_header ds s state i e (with_field (header_at s i e) f n)
        (λ d is inside old. with_field_fits ds d (header_at s i e) old f n valid (subst (λ (o : Option Decl). n < 2 ^ slice_index (option_map_or (widths_in ds) o []) f) is lt))
    by false valid = state

  pub with_request_fits : (kind : RequestKind) (r : Option Request14) → IfSome r (FitsRequest ds) → IsState ds (with_request s kind r)
  with_request_fits kind r fits = by kind where
    by : (kind : RequestKind) → IsState ds (with_request s kind r)
    by CloneI2E = rebuilt ds _ state.instances state.unparsed (numbers ds s state) (record { i2e = fits; e2e = state.clone_e2e; again = state.resubmit; round = state.recirculate }) state.events
    by CloneE2E = rebuilt ds _ state.instances state.unparsed (numbers ds s state) (record { i2e = state.clone_i2e; e2e = fits; again = state.resubmit; round = state.recirculate }) state.events
    by Resubmit = rebuilt ds _ state.instances state.unparsed (numbers ds s state) (record { i2e = state.clone_i2e; e2e = state.clone_e2e; again = fits; round = state.recirculate }) state.events
    by Recirculate = rebuilt ds _ state.instances state.unparsed (numbers ds s state) (record { i2e = state.clone_i2e; e2e = state.clone_e2e; again = state.resubmit; round = fits }) state.events
