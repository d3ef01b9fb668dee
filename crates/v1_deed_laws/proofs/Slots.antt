-- Writing a single value to an l-value, and a number that is cut to it, is writing a number to a slot.
use Rattle.std.proofs.Common.{ℕ, ◌^◌, ◌%◌, Option, refl, pow_pos}
use Rattle.std.proofs.Math.Nat.{mod-lt}
use Rattle.p416_syntax.specs.declared.program.Syntax16.{Syntax16}
use Rattle.v1_core.specs.Values.{a_number, width_in}
use Rattle.v1_core.specs.Frames.{read}
use Rattle.v1_core.specs.Cells.{Cells, slot_value}
use Rattle.v1_core.specs.Seats.{some_bits}
use Rattle.v1_core.specs.PackedFrames.{IsFrameOf}
use Rattle.v1_ready_blocks.specs.declared.places.Slice.{Slice}
use Rattle.v1_ready_blocks.specs.Places.{around, slot_width, put, put_value}
use Rattle.v1_parser_laws.proofs.Parts.{whole_number}
use Rattle.v1_place_laws.proofs.Writing.{slots_written}
use Rattle.v1_deed_laws.specs.Laws.{SlotsPut, NumbersPut}
use Rattle.v1_deed_laws.proofs.Whole.{put_shows}

-- a write to a slot keeps a frame whole
pub slot_whole : (syntax : Syntax16) (c : Cells) (slot : ℕ) (slice : Option Slice) (n : ℕ) → IsFrameOf syntax c → IsFrameOf syntax (put slot slice n c)
slot_whole syntax c slot slice n is = record {
  layout = is.layout;
  whole = whole_number c slot (around slice (slot_value c slot) n % 2 ^ slot_width c slot) (mod-lt (around slice (slot_value c slot) n) (pow_pos (slot_width c slot))) is.whole;
}

pub slots_put : SlotsPut
slots_put syntax who r slice t of v m n keeps scope at form fit h =
    put_shows syntax who m n r v (put_value t.start.slot slice v n.cells) h
    (slots_written syntax n.cells who r slice t of v keeps h.whole scope at form fit) (slot_whole syntax n.cells t.start.slot slice _ h.whole)

-- a number that is cut to the width of what it is written to
pub numbers_put : NumbersPut
numbers_put syntax who r slice t width n m o keeps scope at form h =
    slots_put syntax who r slice t (some_bits width) (a_number (width_in (read m.frame r)) n) m o keeps scope at form refl h
