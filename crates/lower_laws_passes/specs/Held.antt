-- How packets stand between passes, and the store between packets (this project's own; P4_14 1.0.5, "Standard Intrinsic
-- Metadata", "Packet Processing and Control Flow"; `v1model.p4`, `standard_metadata_t`, `V1Switch`).
use Rattle.std.specs.Prelude.{◌≡◌, ℕ, suc, ◌<◌, ◌^◌, Bool, true, false, List, codes}
use Rattle.state_store.specs.declared.shapes.Shape.{Shape}
use Rattle.fabric.specs.Twins.{Fit}
use Rattle.p414_sem.specs.declared.standard.Standard.{Standard}
use Rattle.p414_sem.specs.State.{State, standard_number}
use Rattle.p414_sem.specs.Controls.{Setting as Setting14, control_run}
use Rattle.p414_sem.specs.Effects.{Moment as Moment14}
use Rattle.p414_sem.specs.Parsing.{parsed}
use Rattle.p414_sem.specs.Passes.{Held as Held14}
use Rattle.p414_sem.specs.Runs.{Between as Between14}
use Rattle.v1_core.specs.Values.{Value, a_number, an_error, no_members, member_in}
use Rattle.v1_core.specs.Frames.{Frame, of_headers, of_metadata, of_standard}
use Rattle.v1_core.specs.Passes.{Between, Held}
use Rattle.agreement_of_meanings.specs.Shown.{standard_word, standard_width, AreShown}
use Rattle.lower_laws_base.specs.Context.{StateLayout, Shaped, HasMembers, Stored}
use Rattle.lower_laws_base.specs.Between.{between, ErrorIs, IsAny}

-- standard metadata with the numbers of a state and these errors, and with its members in order
pub record StandardIs (g : StateLayout) (s : State) (error checksum : ℕ) (v : Value) : Type 0 where
  pub numbers : (which : Standard) → member_in v (standard_word which) ≡ a_number (standard_width which) (standard_number s which)
  pub error_is : member_in v (codes "parser_error") ≡ an_error error
  pub checksum_is : member_in v (codes "checksum_error") ≡ a_number 1 checksum
  pub members : HasMembers (g.members of_standard) v

-- a frame between two blocks, beside its requests and events
pub record FrameStands (g : StateLayout) (s : State) (f : Frame) : Type 0 where
  pub instances : AreShown g.names.instances s.instances f
  pub shaped : Shaped (between g) s
  pub standard : StandardIs g s 0 0 f.standard
  pub headers : HasMembers (g.members of_headers) f.headers
  pub metadata : HasMembers (g.members of_metadata) f.metadata
  pub variables : f.variables ≡ no_members
  pub inner : f.inner ≡ no_members

-- what is held

-- a packet without an exception: its frame, what wasn't parsed, and the port of its arrival
pub record HeldAlive (g : StateLayout) (s : State) (k : Held) : Type 0 where
  pub stands : FrameStands g s k.frame
  pub unparsed : k.unparsed ≡ s.unparsed
  pub port : k.port ≡ s.ingress_port

-- an exception, and no request, which none of what is held has
pub record HeldFailed (k : Held) : Type 0 where
  pub any : IsAny k.frame
  pub number : ℕ
  pub error : ErrorIs k.frame (suc number)

-- a held packet that failed is one with an exception, and any other one without
abbrev pub HeldAs : StateLayout → Bool → State → Held → Type 0
HeldAs g false s k = HeldAlive g s k
HeldAs g true s k = HeldFailed k

-- a held packet of P4_14 and one of P4_16 correspond
abbrev pub HeldAlike : StateLayout → Held14 → Held → Type 0
HeldAlike g h k = HeldAs g h.failed h.state k

-- what stands between calls: a store of the program's objects in both
pub record SameState (shapes : List Shape) (s : Between14) (b : Between) : Type 0 where
  pub store : b.store ≡ s.store
  pub events : b.events ≡ s.events
  pub stored : Stored shapes s.store

-- the fit of passes: ports have 9 bits
abbrev pub fit_nine : Fit
fit_nine = record { octets = λ _. Unit {0}; port = λ p. p < 2 ^ 9 }

-- The port of arrival stays as it was: no accepted program writes it.
pub record PortStays (c14 : Setting14) : Type 0 where
  pub parser : (t : State) → (parsed c14.decls t).state.ingress_port ≡ t.ingress_port
  pub ingress : (x : Moment14) → (control_run c14 c14.expanded.ingress x).state.ingress_port ≡ x.state.ingress_port
  pub egress : (x : Moment14) → (control_run c14 c14.expanded.egress x).state.ingress_port ≡ x.state.ingress_port
