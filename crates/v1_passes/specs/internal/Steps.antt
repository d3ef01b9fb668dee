-- The ends of ingress and of egress by the frame that they leave (this project's own).
use Rattle.std.specs.Prelude.{◌≡◌, ℕ, Bool, ◌==◌, if◌then◌else◌, List, ◌++◌, Option, Some, None, option_map, codes}
use Rattle.state_store.specs.Ports.{drop_port}
use Rattle.state_store.specs.State.{Contents}
use Rattle.fabric.specs.declared.items.IngressNext.{IngressNext}
use Rattle.fabric.specs.declared.items.IngressNext.TheVariants as after_ingress
use Rattle.fabric.specs.declared.items.EgressNext.{EgressNext}
use Rattle.fabric.specs.declared.items.EgressNext.TheVariants as after_egress
use Rattle.p416_syntax.specs.declared.program.Syntax16.{Syntax16}
use Rattle.v1_core.specs.Values.{Value}
use Rattle.v1_core.specs.Frames.{Frame, Moment, Request, standard_number, without_requests_and_events}
use Rattle.v1_core.specs.declared.block.Block.TheVariants.{Verify}
use Rattle.v1_core.specs.declared.parser_error.ParserError.{ParserError}
use Rattle.v1_core.specs.Surroundings.{Setting}
use Rattle.v1_core.specs.Blocks.{control16}
use Rattle.v1_core.specs.Passes.{Held, preserved, egress_spec, is_no_error, put_together, octets_left}
use Rattle.v1_core.specs.Cells.{Cells}
use Rattle.v1_packets.specs.Packets.{clone_frame}
use Rattle.v1_passes.specs.Moments.{moment_at}
use Rattle.v1_passes.specs.Tags.{Tagged}

-- a moment is one that stands at this frame, whatever was emitted
pub record StandsAt (s : Syntax16) (c : Cells) (store : Contents) (unparsed : List ℕ) (work : ℕ) (m : Moment) : Type 0 where
  pub emitted : List ℕ
  pub is : m ≡ moment_at s c store unparsed emitted work

-- a moment is one that stands at this frame, and these octets are what was emitted and what wasn't parsed
pub record ArePut (s : Syntax16) (c : Cells) (store : Contents) (unparsed : List ℕ) (work : ℕ) (octets : List ℕ) (m : Moment) : Type 0 where
  pub emitted : List ℕ
  pub is : m ≡ moment_at s c store unparsed emitted work
  pub octets_are : octets ≡ emitted ++ unparsed

-- verification, which is left out after an error
abbrev pub verified_by : Setting → ParserError → Moment → Moment
verified_by c error m = if is_no_error error then control16 c Verify m else m

abbrev pub of_program : {A : Type 0} → Syntax16 → A → Tagged A
of_program s x = record { program = s; value = x }

-- what a request preserves
abbrev pub kept_by : Syntax16 → Frame → Request → Tagged Value
kept_by s f r = of_program s (preserved s f r)

abbrev pub clone_kept : Syntax16 → Frame → Request → ℕ × Tagged Value
clone_kept s f r = (r.0, kept_by s f r)

abbrev pub handed_from : Syntax16 → ℕ → Frame → List ℕ → Tagged Held
handed_from s port f unparsed =
    of_program s (record { frame = without_requests_and_events f; unparsed = unparsed; port = port })

-- what comes of an item behind ingress
abbrev pub next_from : Syntax16 → ℕ → Frame → List ℕ → Option Request → IngressNext (Tagged Value) (Tagged Held)
next_from s port f unparsed (Some r) = after_ingress.Resubmit (kept_by s f r)
next_from s port f unparsed None =
    if egress_spec f == drop_port then after_ingress.Drop else after_ingress.Go (egress_spec f) (handed_from s port f unparsed)

-- the clone that is asked for behind egress
abbrev pub clone_held : Syntax16 → ℕ → Frame → List ℕ → Request → ℕ × Tagged Held
clone_held s port f unparsed r = (
  r.0,
  of_program s (record {
    frame = clone_frame s r.1 port (standard_number f (codes "packet_length")) f;
    unparsed = unparsed;
    port = port;
  }),
)

-- a packet that leaves, where this is preserved for another pass of it
abbrev pub leaves_with : List ℕ → Option (Tagged Value) → EgressNext (Tagged Value)
leaves_with octets (Some kept) = after_egress.Recirculate octets kept
leaves_with octets None = after_egress.Send octets

-- what comes of a packet behind egress, with what is left
abbrev pub finished_by : Setting → Moment → Bool → EgressNext (Tagged Value) × Moment
finished_by c m drops =
    if drops then (after_egress.Drop, m)
    else (leaves_with (octets_left (put_together c m)) (option_map (kept_by c.syntax m.frame) m.frame.recirculate), put_together c m)

abbrev pub finished : Setting → Moment → EgressNext (Tagged Value) × Moment
finished c m = finished_by c m (egress_spec m.frame == drop_port)

-- it comes to this, at this frame, whatever was emitted
pub record Finishes (s : Syntax16) (c : Cells) (store : Contents) (unparsed : List ℕ) (work : ℕ) (end : EgressNext (Tagged Value)) (x : EgressNext (Tagged Value) × Moment) : Type 0 where
  pub emitted : List ℕ
  pub is : x ≡ (end, moment_at s c store unparsed emitted work)
