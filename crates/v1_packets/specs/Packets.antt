-- The frame of a packet between two blocks, as its packed frame has it, and the metadata that is kept for another pass, by the
-- numbers in its slots (this project's own).
use Rattle.std.specs.Prelude.{ℕ, ◌+◌, ◌<◌, ◌^◌, List, [], ◌∷◌, ◌++◌, length, replicate, slice_index, None, codes}
use Rattle.p416_syntax.specs.declared.program.Syntax16.{Syntax16}
use Rattle.p416_syntax.specs.BuiltIn.{standard}
use Rattle.p416_syntax.specs.Declarations.{layouts_of}
use Rattle.p416_syntax.specs.Main.{metadata_kind}
use Rattle.v1_core.specs.Values.{Value, a_number, zero_value}
use Rattle.v1_core.specs.Frames.{Frame, with_standard, without_requests_and_events}
use Rattle.v1_core.specs.Numbered.{nobody, frame_in}
use Rattle.v1_core.specs.Passes.{frame_of, preserved, fresh_standard}
use Rattle.v1_core.specs.Layouts.{no_parts}
use Rattle.v1_core.specs.Cells.{Cells}
use Rattle.v1_core.specs.Seats.{form_of}
use Rattle.v1_core.specs.PackedValues.{value_from}
use Rattle.v1_core.specs.Programs.{numbered16}
use Rattle.v1_pass_slots.specs.Starts.{metadata_start}

-- between two blocks no variable is in scope
abbrev pub packet_frame : Syntax16 → Cells → Frame
packet_frame syntax c = frame_in nobody (numbered16 syntax c)

-- what has these numbers in the slots from one on, 0 in all others, and nothing else
abbrev pub numbers_from : ℕ → List ℕ → Cells
numbers_from first numbers = record {
  layout = no_parts;
  numbers = replicate first 0 ++ numbers;
  valids = [];
  places = [];
  clone_i2e = None;
  clone_e2e = None;
  resubmit = None;
  recirculate = None;
  events = [];
}

-- metadata by the numbers in its slots, in order; one that isn't there is 0
abbrev pub kept_value : Syntax16 → List ℕ → Value
kept_value syntax numbers =
    value_from (layouts_of syntax.decls) (numbers_from (metadata_start syntax).slot numbers) (length (layouts_of syntax.decls))
    (form_of (metadata_kind syntax)) (metadata_start syntax)

-- with this metadata
abbrev pub with_metadata : Value → Frame → Frame
with_metadata kept f = record f { metadata = kept }

-- with standard metadata that is 0
abbrev pub with_zero_standard : Syntax16 → Frame → Frame
with_zero_standard syntax f = record f { standard = zero_value (layouts_of syntax.decls) standard }

-- each number fits its slot, from a slot on
abbrev pub AreFitting : List ℕ → ℕ → List ℕ → Type 0
AreFitting widths slot [] = Unit {0}
AreFitting widths slot (n ∷ numbers) = (n < 2 ^ slice_index widths slot) × AreFitting widths (slot + 1) numbers

-- the frame of a clone made behind egress: the headers as they stand, the metadata that a list preserves, and standard metadata
-- that is 0 but for the port of arrival and the packet's length
abbrev pub clone_frame : Syntax16 → ℕ → ℕ → ℕ → Frame → Frame
clone_frame syntax list port octets f = frame_of f.headers (preserved syntax f (0, list)) (fresh_standard syntax port octets 0)

-- with the port of arrival, the packet's length and its kind
abbrev pub with_fresh : ℕ → ℕ → ℕ → Frame → Frame
with_fresh port octets kind f =
    with_standard (codes "ingress_port") (a_number 9 port)
    (with_standard (codes "packet_length") (a_number 32 octets) (with_standard (codes "instance_type") (a_number 32 kind) f))

-- as egress begins, on this port, of this kind
abbrev pub egress_begun : ℕ → ℕ → Frame → Frame
egress_begun port kind f =
    with_standard (codes "egress_spec") (a_number 9 0)
    (with_standard (codes "egress_port") (a_number 9 port)
    (with_standard (codes "instance_type") (a_number 32 kind) (without_requests_and_events f)))
