-- A write to an l-value that changes one part of a frame, and moments that stay one where the frame changes.
use Rattle.std.proofs.Common.{◌≡◌, ◌⊎◌, inl, inr, ℕ, ◌<◌, ◌≤◌, true, Option, None, List, length, sym, ap, ◌∙◌, subst}
use Rattle.p416_syntax.specs.declared.program.Syntax16.{Syntax16}
use Rattle.p416_syntax.specs.Declarations.{layouts_of}
use Rattle.v1_core.specs.Values.{Value, fitted, Slice}
use Rattle.v1_core.specs.Frames as sem
use Rattle.v1_core.specs.Frames.{Reference, around_slice, write}
use Rattle.v1_core.specs.Slots.{variable_kinds}
use Rattle.v1_core.specs.Numbered.{Numbered, InScope, frame_in, part_value, with_part_value}
use Rattle.v1_core.specs.Cells.{Cells, owner_valid, slot_value, header_valid, stack_place}
use Rattle.v1_core.specs.Seats.{Start, Seat, behind_seat}
use Rattle.v1_core.specs.PackedValues.{seat_value}
use Rattle.v1_core.specs.Programs.{numbered16, of_values}
use Rattle.v1_core.specs.PackedFrames.{IsFrameOf}
use Rattle.v1_core.specs.Scopes.{IsScope}
use Rattle.v1_core.proofs.Named.{meant_write}
use Rattle.v1_core.proofs.Laws.{part_put}
use Rattle.v1_ready_blocks.specs.Moments.{Moment, with_cells}
use Rattle.v1_parser_laws.specs.Shown.{Shows}
use Rattle.v1_place_laws.specs.Finding.{IsAt}
use Rattle.v1_place_laws.proofs.Writing.{variables_counted}

-- outside of two places everything reads as before
pub record Untouched (c d : Cells) (b e : Start) : Type 0 where
  pub layout : d.layout ≡ c.layout
  pub values : (values : List Value) → of_values values c ≡ of_values values d
  pub slots : (i : ℕ) → (i < b.slot) ⊎ (e.slot ≤ i) → slot_value c i ≡ slot_value d i
  pub headers : (i : ℕ) → (i < b.header) ⊎ (e.header ≤ i) → header_valid c i ≡ header_valid d i
  pub stacks : (i : ℕ) → (i < b.stack) ⊎ (e.stack ≤ i) → stack_place c i ≡ stack_place d i

module _ (syntax : Syntax16) (c : Cells) (who : InScope) (is : IsFrameOf syntax c) (scope : IsScope (length (variable_kinds syntax)) who) where
  -- of an l-value as a whole
  pub meant_put : (r : Reference) (t : Seat) (v : Value) (at : IsAt syntax who r None t) → write r v (frame_in who (numbered16 syntax c)) ≡ frame_in who (with_part_value (numbered16 syntax c) at.part v)
  meant_put r t v at =
      let x : Numbered = numbered16 syntax c in
      meant_write who x r.owner r.steps r.slice v at.part (subst (λ (n : ℕ). IsScope n who) (sym (variables_counted syntax c)) scope) at.means
      ∙ ap (λ (s : Option Slice). frame_in who (with_part_value x at.part (around_slice s (part_value x at.part) v))) at.cuts

  -- the frame with one part that differs
  pub part_written : (d : Cells) (r : Reference) (t : Seat) (v : Value) → IsAt syntax who r None t → Untouched c d t.start (behind_seat (layouts_of syntax.decls) t) → (owner_valid c.valids t.owner ≡ true → fitted (seat_value (layouts_of syntax.decls) c t) v ≡ seat_value (layouts_of syntax.decls) d t) → write r v (frame_in who (numbered16 syntax c)) ≡ frame_in who (numbered16 syntax d)
  part_written d r t v at un live =
      meant_put r t v at
      ∙ ap (frame_in who)
      ((part_put syntax c d at.part v t is.layout un.layout at.seat).put un.values
      (record {
        slots = λ i le lt. un.slots i (inl lt);
        headers = λ i le lt. un.headers i (inl lt);
        stacks = λ i le lt. un.stacks i (inl lt);
      })
      (record {
        slots = λ i le lt. un.slots i (inr le);
        headers = λ i le lt. un.headers i (inr le);
        stacks = λ i le lt. un.stacks i (inr le);
      }) live)

-- moments with other frames

pub cells_show : (syntax : Syntax16) (who : InScope) (m : sem.Moment) (n : Moment) (f : sem.Frame) (d : Cells) → Shows syntax who m n → f ≡ frame_in who (numbered16 syntax d) → IsFrameOf syntax d → Shows syntax who (record m { frame = f }) (with_cells d n)
cells_show syntax who m n f d h frame whole = record {
  frame = frame;
  whole = whole;
  store = h.store;
  unparsed = h.unparsed;
  emitted = h.emitted;
  work = h.work;
  stopped = h.stopped;
  hit = h.hit;
}

-- a value written to an l-value
pub put_shows : (syntax : Syntax16) (who : InScope) (m : sem.Moment) (n : Moment) (r : Reference) (v : Value) (d : Cells) → Shows syntax who m n → write r v (frame_in who (numbered16 syntax n.cells)) ≡ frame_in who (numbered16 syntax d) → IsFrameOf syntax d → Shows syntax who (sem.put_at r v m) (with_cells d n)
put_shows syntax who m n r v d h is whole =
    cells_show syntax who m n (write r v m.frame) d h (ap (write r v) h.frame ∙ is) whole
