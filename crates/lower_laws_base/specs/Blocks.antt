-- What is asked of the blocks of P4_16, so that passes correspond: each does what P4_14 says (this project's own; P4_14
-- 1.0.5, "Parser Specification", "Checksums and Hash-value Generators", "Packet Processing and Control Flow",
-- "Deparsing"; the blocks are those of `v1model.p4`, `V1Switch`).
use Rattle.std.specs.Prelude.{◌≡◌, ◌⊎◌, ℕ, suc, None}
use Rattle.p4x_bits.specs.BitLists.{bit}
use Rattle.fabric.specs.declared.items.RequestKind.{RequestKind}
use Rattle.state_store.specs.State.{Contents}
use Rattle.p414_sem.specs.State.{State}
use Rattle.p414_sem.specs.Parsing.{Parse, parsed}
use Rattle.p414_sem.specs.CalculatedFields.{fails_verification, updated}
use Rattle.p414_sem.specs.Effects.{Moment as Moment14}
use Rattle.p414_sem.specs.Controls.{Setting as Setting14, control_run}
use Rattle.p414_sem.specs.Passes.{deparsed}
use Rattle.v1_core.specs.declared.block.Block.TheVariants.{Verify, Ingress, Egress, Compute, Deparse}
use Rattle.v1_core.specs.Frames.{Moment, error_number, request_of}
use Rattle.v1_core.specs.Surroundings.{Setting}
use Rattle.v1_core.specs.Blocks.{control16}
use Rattle.v1_core.specs.Parsing.{Parsed as Parsed16, parse16}
use Rattle.v1_core.specs.Passes.{octets_left}
use Rattle.lower_laws_base.specs.Context.{StateLayout}
use Rattle.lower_laws_base.specs.Between.{Beside, error_of, ErrorIs, ChecksumIs, IsAny, Idle}

-- how the parser ends, where `checksum_error` was this, which stays: with the error of the end, beside what P4_14
-- parsed, and with no request or event of its own
pub record ParserEnds (g : StateLayout) (sum : ℕ) (store : Contents) (m : Moment) (e : Parse) (r : Parsed16) : Type 0 where
  pub error : r.error ≡ error_of e.end
  pub beside : Beside g (error_number (error_of e.end)) sum (record { state = e.state; store = store }) r.moment
  pub requests : (kind : RequestKind) → request_of r.moment.frame kind ≡ request_of m.frame kind
  pub events : r.moment.frame.events ≡ m.frame.events

-- a moment of P4_14 with another state
abbrev pub with_state : Moment14 → State → Moment14
with_state x s = record { state = s; store = x.store }

module _ (g : StateLayout) (c14 : Setting14) (c16 : Setting) where
  -- the parser does what parsing does, whatever `checksum_error` was (P4_14, "Parser Specification"; `v1model.p4`,
  -- `Parser`)
  abbrev pub ParserAlike : Type 0
  ParserAlike =
      (sum : ℕ) (x : Moment14) (m : Moment) → Beside g 0 sum x m → ParserEnds g sum x.store m (parsed c14.decls x.state) (parse16 c16 m)

  -- the sums are checked, and nothing but `checksum_error` changes (P4_14, "Checksums and Hash-value Generators";
  -- `v1model.p4`, `VerifyChecksum`)
  abbrev pub VerifyAlike : Type 0
  VerifyAlike =
      (x : Moment14) (m : Moment) → Beside g 0 0 x m →
      Beside g 0 (bit (fails_verification c14.decls c14.expanded x.state)) x (control16 c16 Verify m)

  -- the ingress block does what the expanded control `ingress` does (P4_14, "Packet Processing and Control Flow";
  -- `v1model.p4`, `Ingress`)
  abbrev pub IngressAlike : Type 0
  IngressAlike =
      (x : Moment14) (m : Moment) → Beside g 0 0 x m →
      Beside g 0 0 (control_run c14 c14.expanded.ingress x) (control16 c16 Ingress m)

  -- the egress block does what the expanded control `egress` does (P4_14, "Packet Processing and Control Flow";
  -- `v1model.p4`, `Egress`)
  abbrev pub EgressAlike : Type 0
  EgressAlike =
      (x : Moment14) (m : Moment) → Beside g 0 0 x m →
      Beside g 0 0 (control_run c14 c14.expanded.egress x) (control16 c16 Egress m)

  -- the calculated fields are updated, and no table is applied (P4_14, "Checksums and Hash-value Generators";
  -- `v1model.p4`, `ComputeChecksum`)
  abbrev pub ComputeAlike : Type 0
  ComputeAlike =
      (x : Moment14) (m : Moment) → Beside g 0 0 x m →
      Beside g 0 0 (with_state x (updated c14.decls c14.expanded x.state)) (control16 c16 Compute m)
      × ((control16 c16 Compute m).frame.events ≡ m.frame.events)

  -- the headers are put in front of what wasn't parsed, and store and events stay (P4_14, "Deparsing"; `v1model.p4`,
  -- `Deparser`)
  abbrev pub DeparserAlike : Type 0
  DeparserAlike =
      (x : Moment14) (m : Moment) → Beside g 0 0 x m →
      (octets_left (control16 c16 Deparse m) ≡ deparsed c14.decls c14.expanded x.state)
      × ((control16 c16 Deparse m).store ≡ m.store)
      × ((control16 c16 Deparse m).frame.events ≡ m.frame.events)

-- after an exception of the parser, or a sum that is wrong, both pipelines are idle

-- the ingress block drops a packet with an error or a wrong sum, and does nothing else
abbrev pub IngressIdle : Setting → Type 0
IngressIdle c16 =
    (m : Moment) → m.stopped ≡ None → IsAny m.frame → (((n : ℕ) × ErrorIs m.frame (suc n)) ⊎ ChecksumIs m.frame 1) →
    Idle m (control16 c16 Ingress m)

-- the egress block drops a packet with an error, and does nothing else
abbrev pub EgressIdle : Setting → Type 0
EgressIdle c16 =
    (m : Moment) → m.stopped ≡ None → IsAny m.frame → (n : ℕ) → ErrorIs m.frame (suc n) → Idle m (control16 c16 Egress m)

-- All six blocks do what P4_14 says: what the laws of the blocks give, and the law of passes takes.
pub record BlocksAlike (g : StateLayout) (c14 : Setting14) (c16 : Setting) : Type 0 where
  pub parser : ParserAlike g c14 c16
  pub verify : VerifyAlike g c14 c16
  pub ingress : IngressAlike g c14 c16
  pub egress : EgressAlike g c14 c16
  pub failed_ingress : IngressIdle c16
  pub failed_egress : EgressIdle c16
  pub compute : ComputeAlike g c14 c16
  pub deparser : DeparserAlike g c14 c16
