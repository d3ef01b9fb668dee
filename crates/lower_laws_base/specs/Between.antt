-- How a moment stands between two blocks (this project's own; the blocks are those of `v1model.p4`, `V1Switch`, and the
-- errors those of P4_14 1.0.5, "Standard Parser Exceptions", and of P4_16 1.2, "Packet parsing").
use Rattle.std.specs.Prelude.{◌≡◌, ℕ, Bool, true, [], None, codes, unwrap_or}
use Rattle.state_store.specs.Ports.{drop_port}
use Rattle.fabric.specs.declared.items.RequestKind.{RequestKind}
use Rattle.p414_sem.specs.declared.standard.Standard.{Standard}
use Rattle.p414_sem.specs.declared.parsed.Parsed.{Parsed}
use Rattle.p414_sem.specs.Effects.{Moment as Moment14}
use Rattle.v1_core.specs.declared.parser_error.ParserError.{ParserError}
use Rattle.v1_core.specs.declared.parser_error.ParserError.TheVariants.{NoError}
use Rattle.v1_core.specs.Values.{a_number, an_error, no_members, member_in}
use Rattle.v1_core.specs.Frames.{Frame, Moment, Owner, request_of}
use Rattle.v1_core.specs.Passes.{egress_spec}
use Rattle.agreement_of_meanings.specs.Shown.{standard_word, standard_width}
use Rattle.agreement_of_meanings.specs.Agrees.{stop_of}
use Rattle.lower_laws_base.specs.Context.{StateLayout, Aside, Stands}

-- each of the three parameters of a block is there
abbrev pub every : Owner → Bool
every o = true

-- the layout with all three parameters and no variables
abbrev pub between : StateLayout → StateLayout
between g = record { names = g.names; size_of = g.size_of; has = every; members = g.members; variables = []; shapes = g.shapes }

-- the rest of a moment between two blocks: these errors, nothing emitted, no entry hit
abbrev pub quiet : ℕ → ℕ → Aside
quiet error checksum = record { error = error; checksum = checksum; emitted = []; hit = None }

-- the moments stand beside each other between two blocks, with this number in `parser_error` and this one in
-- `checksum_error`
abbrev pub Beside : StateLayout → ℕ → ℕ → Moment14 → Moment → Type 0
Beside g error checksum x m = Stands (between g) [] [] (quiet error checksum) x m

-- what a parser leaves in `parser_error`, which was NoError as the pass began
abbrev pub error_of : Parsed → ParserError
error_of end = unwrap_or (stop_of end) NoError

-- `parser_error` of standard metadata is the error with this number
abbrev pub ErrorIs : Frame → ℕ → Type 0
ErrorIs f n = member_in f.standard (codes "parser_error") ≡ an_error n

-- `checksum_error` of standard metadata is this bit
abbrev pub ChecksumIs : Frame → ℕ → Type 0
ChecksumIs f n = member_in f.standard (codes "checksum_error") ≡ a_number 1 n

-- a frame of any packet, whatever its headers and metadata hold, without variables
pub record IsAny (f : Frame) : Type 0 where
  pub numbers : (which : Standard) → (n : ℕ) × (member_in f.standard (standard_word which) ≡ a_number (standard_width which) n)
  pub variables : f.variables ≡ no_members
  pub inner : f.inner ≡ no_members

-- a pipeline that a failed packet goes through: nothing is asked for or applied, and the packet is dropped
pub record Idle (m r : Moment) : Type 0 where
  pub store : r.store ≡ m.store
  pub events : r.frame.events ≡ m.frame.events
  pub requests : (kind : RequestKind) → request_of r.frame kind ≡ request_of m.frame kind
  pub port : egress_spec r.frame ≡ drop_port
