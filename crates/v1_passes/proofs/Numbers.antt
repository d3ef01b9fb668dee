-- The numbers of what is held, in the slots of a packed frame.
use Rattle.std.proofs.Common.{◌≡◌, ℕ, ◌<◌, ◌^◌, List, length, refl, sym, ap, subst, ◌∙◌}
use Rattle.std.proofs.Math.Nat.{mod-eq_of_lt}
use Rattle.std.specs.Prelude.{slice_index}
use Rattle.p416_syntax.specs.declared.program.Syntax16.{Syntax16}
use Rattle.v1_core.specs.Values.{Value, a_number, as_number, part_at, with_part_at}
use Rattle.v1_core.specs.Slots.{PartOwner, the_headers, the_metadata, the_standard, the_variable, FramePart}
use Rattle.v1_core.specs.Frames.{Frame}
use Rattle.v1_core.specs.Numbered.{Numbered, nobody, frame_in, owner_value, with_owner_value, part_value}
use Rattle.v1_core.specs.Passes.{Held}
use Rattle.v1_core.specs.Layouts.{Layout}
use Rattle.v1_core.specs.Cells.{AreWhole, Cells, slot_value, with_slot}
use Rattle.v1_core.specs.Seats.{Seat, slot_form, some_bits}
use Rattle.v1_core.specs.Programs.{numbered16}
use Rattle.v1_core.specs.PackedFrames.{IsFrameOf}
use Rattle.v1_core.proofs.Laws.{part_read, slot_put}
use Rattle.v1_packets.specs.Packets.{packet_frame}
use Rattle.v1_passes.specs.Tags.{Tagged}
use Rattle.v1_passes.specs.Held.{HasSlot, IsBitsAt, IsHeld, SlotHolds, held_number, numbered_of, with_number}

pub slot_there : (s : Syntax16) (c : Cells) (slot : ℕ) → IsFrameOf s c → HasSlot s slot → slot < length c.layout.widths
slot_there s c slot is has = subst (λ (l : Layout). slot < length l.widths) (sym is.layout) has.there

pub slot_fits : (s : Syntax16) (c : Cells) (slot n : ℕ) → IsFrameOf s c → SlotHolds s slot n → n < 2 ^ slice_index c.layout.widths slot
slot_fits s c slot n is holds =
    subst (λ (l : Layout). n < 2 ^ slice_index l.widths slot) (sym is.layout) holds.fits

pub still_frame : (s : Syntax16) (c before after d : Cells) (slot n : ℕ) → IsFrameOf s c → before ≡ c → d ≡ with_slot before slot n → after ≡ d → AreWhole after → IsFrameOf s d
still_frame s c before after d slot n is same set seen whole = record {
  layout = ap (λ (x : Cells). x.layout) set ∙ ap (λ (x : Cells). x.layout) same ∙ is.layout;
  whole = subst AreWhole seen whole;
}

-- between two blocks the values of variables don't show

held_read : (x : Numbered) (owner : PartOwner) → IsHeld owner → owner_value (numbered_of (frame_in nobody x)) owner ≡ owner_value x owner
held_read x the_headers held = refl
held_read x the_metadata held = refl
held_read x the_standard held = refl
held_read x (the_variable number) held = absurd held

held_put : (x : Numbered) (owner : PartOwner) (v : Value) → IsHeld owner → frame_in nobody (with_owner_value (numbered_of (frame_in nobody x)) owner v) ≡ frame_in nobody (with_owner_value x owner v)
held_put x the_headers v held = refl
held_put x the_metadata v held = refl
held_put x the_standard v held = refl
held_put x (the_variable number) v held = absurd held

abbrev held_of : Syntax16 → Cells → List ℕ → ℕ → Held
held_of s c unparsed port = record { frame = packet_frame s c; unparsed = unparsed; port = port }

abbrev tagged_of : Syntax16 → Held → Tagged Held
tagged_of s h = record { program = s; value = h }

abbrev seat_of : {s : Syntax16} {part : FramePart} {width slot : ℕ} → IsBitsAt s part width slot → Seat
seat_of {width = width} at =
    record { depth = at.depth; form = slot_form (some_bits width); start = at.start; owner = at.owner }

pub number_is : (s : Syntax16) (c : Cells) (slot n : ℕ) (h : Held) → IsFrameOf s c → h.frame ≡ packet_frame s c → n ≡ slot_value c slot → (part : FramePart) (width : ℕ) → IsBitsAt s part width slot → n ≡ held_number h part
number_is s c slot n h is frame got part width at =
    got ∙ ap (slot_value c) (sym at.at)
    ∙ sym (ap as_number (ap (λ (f : Frame). part_value (numbered_of f) part) frame
    ∙ ap (λ (v : Value). part_at part.path v) (held_read (numbered16 s c) part.owner at.held)
    ∙ part_read s c part (seat_of at) is.layout at.found))

pub number_put : (s : Syntax16) (c d : Cells) (slot n : ℕ) (unparsed : List ℕ) (port : ℕ) → IsFrameOf s c → d ≡ with_slot c slot n → (part : FramePart) (width : ℕ) → IsBitsAt s part width slot → n < 2 ^ width → tagged_of s (held_of s d unparsed port) ≡ tagged_of s (with_number part width n (held_of s c unparsed port))
number_put s c d slot n unparsed port is set part width at fits =
    ap (λ (f : Frame). tagged_of s (record { frame = f; unparsed = unparsed; port = port }))
    (ap (packet_frame s) set
    ∙ ap (λ (k : ℕ). packet_frame s (with_slot c k n)) (sym at.at)
    ∙ sym (ap (frame_in nobody) (slot_put s c part (a_number width n) at.depth (some_bits width) at.start at.owner n is at.found
    (ap (a_number width) (mod-eq_of_lt fits))))
    ∙ sym (ap (λ (v : Value). frame_in nobody (with_owner_value (numbered_of (packet_frame s c)) part.owner (with_part_at part.path (a_number width n) v))) (held_read (numbered16 s c) part.owner at.held)
    ∙ held_put (numbered16 s c) part.owner (with_part_at part.path (a_number width n) (owner_value (numbered16 s c) part.owner)) at.held))

-- what the calls of Held16 owe and give, over the value as contracts see it

abbrev view_of : Syntax16 → Cells → List ℕ → ℕ → Tagged Held
view_of s c unparsed port = tagged_of s (held_of s c unparsed port)

pub slot_in : (s : Syntax16) (c : Cells) (unparsed : List ℕ) (port slot : ℕ) (h : Tagged Held) → view_of s c unparsed port ≡ h → IsFrameOf s c → HasSlot h.program slot → slot < length c.layout.widths
slot_in s c unparsed port slot h is frame has =
    slot_there s c slot frame (subst (λ (x : Tagged Held). HasSlot x.program slot) (sym is) has)

pub number_fits : (s : Syntax16) (c : Cells) (unparsed : List ℕ) (port slot n : ℕ) (h : Tagged Held) → view_of s c unparsed port ≡ h → IsFrameOf s c → SlotHolds h.program slot n → n < 2 ^ slice_index c.layout.widths slot
number_fits s c unparsed port slot n h is frame holds =
    slot_fits s c slot n frame (subst (λ (x : Tagged Held). SlotHolds x.program slot n) (sym is) holds)

pub number_held : (s : Syntax16) (c : Cells) (unparsed : List ℕ) (port slot n : ℕ) (h : Tagged Held) → view_of s c unparsed port ≡ h → IsFrameOf s c → n ≡ slot_value c slot → (part : FramePart) (width : ℕ) → IsBitsAt h.program part width slot → n ≡ held_number h.value part
number_held s c unparsed port slot n h is frame got part width at =
    number_is s c slot n h.value frame (ap (λ (x : Tagged Held). x.value.frame) (sym is)) got part width
    (subst (λ (x : Tagged Held). IsBitsAt x.program part width slot) (sym is) at)

pub number_left : (s : Syntax16) (c d : Cells) (unparsed : List ℕ) (port slot n : ℕ) (h : Tagged Held) → view_of s c unparsed port ≡ h → IsFrameOf s c → d ≡ with_slot c slot n → (part : FramePart) (width : ℕ) → IsBitsAt h.program part width slot → n < 2 ^ width → view_of s d unparsed port ≡ record { program = h.program; value = with_number part width n h.value }
number_left s c d unparsed port slot n h is frame set part width at fits =
    number_put s c d slot n unparsed port frame set part width (subst (λ (x : Tagged Held). IsBitsAt x.program part width slot) (sym is) at) fits
    ∙ ap (λ (x : Tagged Held). record { program = x.program; value = with_number part width n x.value }) is
