-- Emptying the headers does what beginning to parse does, and a number in the slot of `parser_error` is an error there.
use Rattle.std.proofs.Common.{◌≡◌, ℕ, ◌^◌, ◌<◌, List, [], ◌∷◌, get_or, Option, Some, None, refl, sym, ap, ◌∙◌, subst}
use Rattle.std.specs.Prelude.{codes}
use Rattle.p416_syntax.specs.declared.program.Syntax16.{Syntax16}
use Rattle.p416_syntax.specs.Declarations.{layouts_of}
use Rattle.v1_core.specs.declared.parser_error.ParserError.{ParserError}
use Rattle.v1_core.specs.Values.{Value, an_error, to_member}
use Rattle.v1_core.specs.Frames as sem
use Rattle.v1_core.specs.Frames.{error_number}
use Rattle.v1_core.specs.Slots.{the_headers, the_standard}
use Rattle.v1_core.specs.Surroundings.{Setting}
use Rattle.v1_core.specs.Numbered.{Numbered, InScope, frame_in, part_value, with_part_value, new_numbered}
use Rattle.v1_core.specs.Parsing as parsing
use Rattle.v1_core.specs.Layouts.{Layout}
use Rattle.v1_core.specs.Cells.{Cells, with_slot}
use Rattle.v1_core.specs.Seats as seats
use Rattle.v1_core.specs.Seats.{slot_form, Form, Start, Seat}
use Rattle.v1_core.specs.Programs.{layout16, part_seat, numbered16}
use Rattle.v1_core.specs.PackedFrames.{IsFrameOf}
use Rattle.v1_core.proofs.Laws.{slot_put}
use Rattle.v1_ready_blocks.specs.declared.places.Range.{Range}
use Rattle.v1_ready_blocks.specs.Places.{emptied}
use Rattle.v1_ready_blocks.specs.Moments as blocks
use Rattle.v1_ready_states.specs.States as ready
use Rattle.v1_parser_laws.specs.Shown.{Shows}
use Rattle.v1_parser_laws.specs.Ranges.{IsRangeOf, all_of, IsBegun, headers_seat, EmptiedHeaders, error_part, ErrorStands}
use Rattle.v1_parser_laws.proofs.Parts.{whole_number}
use Rattle.v1_parser_laws.proofs.Emptied.{emptied_begins}

-- the frame with the headers of a new one
headers_frame : (syntax : Syntax16) (who : InScope) (c d : Cells) → IsBegun syntax c d the_headers → record (frame_in who (numbered16 syntax c)) { headers = (new_numbered syntax).headers } ≡ frame_in who (numbered16 syntax d)
headers_frame syntax who c d begun =
    ap (λ (x : Numbered). record (frame_in who x) { headers = (new_numbered syntax).headers }) begun.value
    ∙ ap (λ (v : Value). record (frame_in who (numbered16 syntax d)) { headers = v }) (sym begun.is)

pub emptied_headers : EmptiedHeaders
emptied_headers c who r m n range h =
    let begun : IsBegun c.syntax n.cells (emptied r n.cells) the_headers = emptied_begins c.syntax n.cells the_headers (headers_seat c.syntax) r h.whole refl range in
    record {
      frame =
          ap (λ (f : sem.Frame). record f { headers = (new_numbered c.syntax).headers }) h.frame
          ∙ headers_frame c.syntax who n.cells (emptied r n.cells) begun;
      whole = begun.frame;
      store = h.store;
      unparsed = h.unparsed;
      emitted = h.emitted;
      work = h.work;
      stopped = h.stopped;
      hit = h.hit;
    }

-- an error in its slot
error_put : (syntax : Syntax16) (who : InScope) (c : Cells) (t : Seat) (e : ParserError) (form : Form) → part_seat syntax error_part ≡ Some t → t.form ≡ form → form ≡ slot_form seats.an_error → (m : sem.Moment) (n : blocks.Moment) → n.cells ≡ c → Shows syntax who m n → sem.with_standard (codes "parser_error") (an_error (error_number e)) (frame_in who (numbered16 syntax c)) ≡ frame_in who (numbered16 syntax (with_slot c t.start.slot (error_number e)))
error_put syntax who c t e form found is slot m n here h =
    ap (frame_in who)
    (slot_put syntax c error_part (an_error (error_number e)) t.depth seats.an_error t.start t.owner (error_number e)
    (subst (λ (d : Cells). IsFrameOf syntax d) here h.whole)
    (found ∙ ap (λ (k : Form). Some (record { depth = t.depth; form = k; start = t.start; owner = t.owner })) (is ∙ slot))
    refl)

pub error_stands : ErrorStands
error_stands c who t e m n found is fits h = record {
  frame =
      ap (λ (f : sem.Frame). sem.with_standard (codes "parser_error") (an_error (error_number e)) f) h.frame
      ∙ error_put c.syntax who n.cells t e t.form found refl is m n refl h;
  whole = record {
    layout = h.whole.layout;
    whole = whole_number n.cells t.start.slot (error_number e) (subst (λ (l : Layout). error_number e < 2 ^ get_or l.widths t.start.slot 0) (sym h.whole.layout) fits) h.whole.whole;
  };
  store = h.store;
  unparsed = h.unparsed;
  emitted = h.emitted;
  work = h.work;
  stopped = refl;
  hit = h.hit;
}
