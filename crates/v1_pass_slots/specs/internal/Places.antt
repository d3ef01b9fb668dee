-- What is found of a program's frames along its types.
use Rattle.std.specs.Prelude.{◌≡◌, ℕ, ◌<◌, List, length, slice_index, Some, None, codes}
use Rattle.p416_syntax.specs.Names.{Name}
use Rattle.p416_syntax.specs.Kinds.{Kind}
use Rattle.p416_syntax.specs.Scopes.{Layout as TypeLayout}
use Rattle.p416_syntax.specs.BuiltIn.{standard}
use Rattle.v1_core.specs.Values.{to_member}
use Rattle.v1_core.specs.Layouts.{Layout}
use Rattle.v1_core.specs.Seats.{some_bits, slot_form, form_of, Start, behind, Seat, stepped_seat}
use Rattle.v1_core.specs.Programs.{first_start}
use Rattle.v1_seats.specs.Seen.{seen_start}
use Rattle.v1_pass_slots.specs.declared.find.Starts.{Starts}
use Rattle.v1_pass_slots.specs.declared.slots.StandardSlots.{StandardSlots}

-- behind headers and metadata of these kinds, and behind the standard metadata
pub record AreStarts (types : List TypeLayout) (headers metadata : Kind) (s : Starts) : Type 0 where
  pub metadata_at : seen_start s.metadata ≡ behind types (length types) (form_of headers) first_start
  pub standard_at : seen_start s.standard ≡ behind types (length types) (form_of metadata) (seen_start s.metadata)
  pub variables_at : seen_start s.variables ≡ behind types (length types) (form_of standard) (seen_start s.standard)

-- bits that are no field of a header
abbrev pub bits_seat : ℕ → ℕ → Start → Seat
bits_seat depth width start = record { depth = depth; form = slot_form (some_bits width); start = start; owner = None }

-- a seat of bits of this width, and the slot that it is in
pub record IsLoneSlot (l : Layout) (seat : Seat) (width slot : ℕ) : Type 0 where
  pub depth : ℕ
  pub start : Start
  pub begins : start.slot ≡ slot
  pub is : seat ≡ bits_seat depth width start
  pub within : slot < length l.widths
  pub wide : slice_index l.widths slot ≡ width

-- a field of the standard metadata, which begins there
pub record HasField (types : List TypeLayout) (l : Layout) (from : Start) (word : Name) (width slot : ℕ) : Type 0 where
  pub depth : ℕ
  pub start : Start
  pub begins : start.slot ≡ slot
  pub seat : stepped_seat types (length types) (form_of standard) from (to_member word) ≡ Some (bits_seat depth width start)
  pub within : slot < length l.widths
  pub wide : slice_index l.widths slot ≡ width

pub record HasFields (types : List TypeLayout) (l : Layout) (from : Start) (f : StandardSlots) : Type 0 where
  pub ingress_port : HasField types l from (codes "ingress_port") 9 f.ingress_port
  pub egress_spec : HasField types l from (codes "egress_spec") 9 f.egress_spec
  pub egress_port : HasField types l from (codes "egress_port") 9 f.egress_port
  pub packet_length : HasField types l from (codes "packet_length") 32 f.packet_length
  pub instance_type : HasField types l from (codes "instance_type") 32 f.instance_type
