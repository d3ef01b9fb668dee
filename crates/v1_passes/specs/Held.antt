-- The numbers of what is held between ingress and egress, by the parts of its frame, and the slots where a packed frame has them
-- (this project's own).
use Rattle.std.specs.Prelude.{◌≡◌, ℕ, ◌<◌, ◌^◌, [], length, slice_index, Option, Some}
use Rattle.p416_syntax.specs.declared.program.Syntax16.{Syntax16}
use Rattle.v1_core.specs.Values.{a_number, as_number}
use Rattle.v1_core.specs.Slots.{PartOwner, the_headers, the_metadata, the_standard, the_variable, FramePart}
use Rattle.v1_core.specs.Frames.{Frame}
use Rattle.v1_core.specs.Numbered.{Numbered, nobody, frame_in, part_value, with_part_value}
use Rattle.v1_core.specs.Passes.{Held}
use Rattle.v1_core.specs.Seats.{Start, slot_form, some_bits}
use Rattle.v1_core.specs.Programs.{layout16, part_seat}

-- the values of a frame between two blocks, in which no variable is in scope
abbrev pub numbered_of : Frame → Numbered
numbered_of f = record {
  headers = f.headers;
  metadata = f.metadata;
  standard_metadata = f.standard;
  variables = [];
  clone_i2e = f.clone_i2e;
  clone_e2e = f.clone_e2e;
  resubmit = f.resubmit;
  recirculate = f.recirculate;
  events = f.events;
}

-- headers, metadata and standard metadata are held
abbrev pub IsHeld : PartOwner → Type 0
IsHeld the_headers = Unit {0}
IsHeld the_metadata = Unit {0}
IsHeld the_standard = Unit {0}
IsHeld (the_variable number) = ⊥

-- a part that is held and is bits of this width has its number in this slot
pub record IsBitsAt (syntax : Syntax16) (part : FramePart) (width slot : ℕ) : Type 0 where
  pub held : IsHeld part.owner
  pub depth : ℕ
  pub start : Start
  pub owner : Option ℕ
  pub found : part_seat syntax part ≡ Some (record { depth = depth; form = slot_form (some_bits width); start = start; owner = owner })
  pub at : start.slot ≡ slot

-- there is a slot with this number
pub record HasSlot (syntax : Syntax16) (slot : ℕ) : Type 0 where
  pub there : slot < length (layout16 syntax).widths

-- this number fits the slot
pub record SlotHolds (syntax : Syntax16) (slot n : ℕ) : Type 0 where
  pub fits : n < 2 ^ slice_index (layout16 syntax).widths slot

-- the number of a part
abbrev pub held_number : Held → FramePart → ℕ
held_number h part = as_number (part_value (numbered_of h.frame) part)

-- with another number there; where that is a field of an invalid header nothing changes
abbrev pub with_number : FramePart → ℕ → ℕ → Held → Held
with_number part width n h =
    record h { frame = frame_in nobody (with_part_value (numbered_of h.frame) part (a_number width n)) }
