-- What is read of a field fits it.
use Rattle.std.proofs.Common.{◌≡◌, ℕ, zero, suc, ◌<◌, ◌≤◌, ◌^◌, Bool, true, false, cond, Option, Some, None, List, [], ◌∷◌, length, get_or, refl, sym, ap, subst, arith, ⊎_elim}
use Rattle.std.specs.Prelude.{slice_index}
use Rattle.std.specs.Option.{option_map_or}
use Rattle.std.proofs.lemmas.Bool.{cases_lt}
use Rattle.std.proofs.lemmas.List.{get_or_past}
use Rattle.std.proofs.lemmas.Nat.{pow_pos}
use Rattle.std.proofs.lemmas.Slice.Zip.{AllZip-long}
use Rattle.p414_syntax.specs.declared.syntax.Decl.{Decl}
use Rattle.p414_syntax.specs.declared.syntax.Sort.TheVariants as sort
use Rattle.p414_syntax.specs.Names.{numbered, declared_in}
use Rattle.p414_sem.specs.declared.standard.Standard.TheVariants.{IngressPort, EgressSpec, EgressPort, PacketLength, InstanceType}
use Rattle.p414_sem.specs.Slots.{Slot, standard, declared}
use Rattle.p414_sem.specs.State.{Header, Instance, State, no_instance, no_header, header_at, instance_at, is_valid, read}
use Rattle.p414_sem.specs.Fitting.{FitWidths, FitsInstance, IsState}
use Rattle.lower_laws_states.specs.Fits.{widths_in, slot_bits}
use Rattle.lower_laws_states.proofs.Members.{none_past}
use Rattle.lower_laws_states.proofs.Instances.{instance_fits}

-- each number fits its width
pub number_fits : (widths numbers : List ℕ) → FitWidths widths numbers → (f : ℕ) → slice_index numbers f < 2 ^ slice_index widths f
number_fits [] [] fit f = omega arith
number_fits [] (n ∷ numbers) fit f = absurd fit
number_fits (w ∷ widths) [] fit f = absurd fit
number_fits (w ∷ widths) (n ∷ numbers) fit zero = fit.0
number_fits (w ∷ widths) (n ∷ numbers) fit (suc f) = number_fits widths numbers fit.1 f

abbrev Read : List Decl → State → ℕ → ℕ → ℕ → Option Decl → Type 0
Read ds s i e f o = slice_index (header_at s i e).numbers f < 2 ^ slice_index (option_map_or (widths_in ds) o []) f

pub read_fits : (ds : List Decl) (s : State) → IsState ds s → (slot : Slot) → read s slot < 2 ^ slot_bits ds slot
read_fits ds s state (standard IngressPort) = state.ingress_port
read_fits ds s state (standard EgressSpec) = state.egress_spec
read_fits ds s state (standard EgressPort) = state.egress_port
read_fits ds s state (standard PacketLength) = state.packet_length
read_fits ds s state (standard InstanceType) = state.instance_type
read_fits ds s state (declared i e f) = whole (is_valid s i e) (by (numbered sort.Instance ds i) refl) where
  nothing : header_at s i e ≡ no_header → (o : Option Decl) → Read ds s i e f o
  nothing is o = subst (λ (h : Header). slice_index h.numbers f < 2 ^ slice_index (option_map_or (widths_in ds) o []) f) (sym is) (pow_pos (slice_index (option_map_or (widths_in ds) o []) f))

  gone : length s.instances ≤ i → header_at s i e ≡ no_header
  gone past = ap (λ (z : Instance). get_or z.elements e no_header) (get_or_past s.instances i no_instance past)

  by : (o : Option Decl) → numbered sort.Instance ds i ≡ o → Read ds s i e f o
  by None is = nothing (gone (omega (arith, none_past (declared_in sort.Instance ds) i is, AllZip-long (FitsInstance ds) (declared_in sort.Instance ds) s.instances state.instances))) None
  by (Some d) is =
      let here = instance_fits ds s state i d is in
      ⊎_elim (λ lt. number_fits (widths_in ds d) (header_at s i e).numbers (here.each e no_header lt).fits.numbers f)
      (λ past. nothing (get_or_past (instance_at s i).elements e no_header past) (Some d)) (cases_lt e (length (instance_at s i).elements))

  whole : (b : Bool) → Read ds s i e f (numbered sort.Instance ds i) → cond b (slice_index (header_at s i e).numbers f) 0 < 2 ^ slot_bits ds (declared i e f)
  whole true fit = fit
  whole false fit = pow_pos (slot_bits ds (declared i e f))
