-- What assignments come to.
use Rattle.std.proofs.Common.{◌≡◌, ℕ, ◌<◌, List, length, Option, Some, None, Ok, Err, refl, sym, ap, ◌∙◌}
use Rattle.state_store.specs.State.{Contents}
use Rattle.v1_core.specs.declared.parser_error.ParserError.{ParserError}
use Rattle.v1_core.specs.declared.parser_error.ParserError.TheVariants.{StackOutOfBounds}
use Rattle.v1_core.specs.Values.{as_number}
use Rattle.v1_core.specs.Cells.{Cells, slot_value}
use Rattle.v1_core.specs.Layouts.{Layout}
use Rattle.v1_core.specs.declared.scalar.Scalar.{Scalar}
use Rattle.v1_core.specs.declared.node.Content.TheVariants as content
use Rattle.v1_core.specs.Scalars.{seen_scalar}
use Rattle.v1_core.specs.Ready as ready
use Rattle.v1_ready_blocks.specs.declared.places.Slice.{Slice}
use Rattle.v1_ready_blocks.specs.declared.places.SlotPlace.{SlotPlace}
use Rattle.v1_ready_blocks.specs.declared.places.SlotPlace.TheVariants as slot_place
use Rattle.v1_ready_blocks.specs.declared.places.Range.{Range}
use Rattle.v1_ready_blocks.specs.declared.places.RangePlace.{RangePlace}
use Rattle.v1_ready_blocks.specs.Moments.{Moment, with_cells}
use Rattle.v1_ready_blocks.specs.Places.{slot_at, range_at, put, put_value, copied}
use Rattle.v1_ready_blocks.specs.Tests.{Applied, Test, plain, Valued, test_value, with_test, Source, Reached, source_range, with_source, with_slot_at, with_range}
use Rattle.v1_ready_blocks.specs.Statements.{assign, assign_parts, let_go, done}
use Rattle.v1_ready_blocks.specs.Nodes.{Ground, IsSlot, IsSlotPlace, IsRange, IsRangePlace}
use Rattle.v1_statement_run.specs.declared.run.Run.{Run}
use Rattle.v1_statement_run.specs.Seen.{moment}
use Rattle.v1_statement_run.specs.Steps.{IsOver, Comes, Gives, Finds, stopped_by}
use Rattle.v1_statement_run.proofs.Coming.{stopped_comes, frame_comes, at_layout, to_ground}

module _ (g : Ground) (f : Cells) (s : Contents) (u : List ℕ) (r : Run) where
  pub slot_over : (to : SlotPlace) → IsOver g (moment f s u r) → IsSlotPlace g.layout to → IsSlotPlace f.layout to
  slot_over to over is = at_layout g (λ (l : Layout). IsSlotPlace l to) f s u r over is

  pub slot_later : (h : Cells) (t : Contents) (v : List ℕ) (n : Run) (slot : ℕ) → IsOver g (moment f s u r) → IsOver g (moment h t v n) → IsSlot f.layout slot → IsSlot h.layout slot
  slot_later h t v n slot over later is =
      at_layout g (λ (l : Layout). IsSlot l slot) h t v n later (to_ground g (λ (l : Layout). IsSlot l slot) f s u r over is)

  pub range_over : (to : RangePlace) → IsOver g (moment f s u r) → IsRangePlace g.layout to → IsRangePlace f.layout to
  range_over to over is = at_layout g (λ (l : Layout). IsRangePlace l to) f s u r over is

  pub range_later : (h : Cells) (t : Contents) (v : List ℕ) (n : Run) (range : Range) → IsOver g (moment f s u r) → IsOver g (moment h t v n) → IsRange f.layout range → IsRange h.layout range
  range_later h t v n range over later is =
      at_layout g (λ (l : Layout). IsRange l range) h t v n later (to_ground g (λ (l : Layout). IsRange l range) f s u r over is)

  pub range_now : (range : Range) → IsOver g (moment f s u r) → IsRange g.layout range → IsRange f.layout range
  range_now range over is = at_layout g (λ (l : Layout). IsRange l range) f s u r over is

module _ (g : Ground) (runs : ℕ → Moment → Applied) (f h new : Cells) (s t : Contents) (u : List ℕ) (r n after : Run) (to : SlotPlace) (slice : Option Slice) (e : Test) where
  pub slot_beyond : IsOver g (moment f s u r) → None ≡ slot_at f to → after ≡ stopped_by StackOutOfBounds r → Comes g (done runs (assign to slice e) (moment f s u r)) (moment f s u after)
  slot_beyond over none stops =
      stopped_comes g (done runs (assign to slice e) (moment f s u r)) f s u r after StackOutOfBounds over
      (ap (λ (o : Option ℕ). with_slot_at o (moment f s u r) (λ slot. with_test (test_value runs e (moment f s u r)) (λ v k. with_cells (put_value slot slice v k.cells) k))) (sym none)) stops

  found : (slot : ℕ) → Some slot ≡ slot_at f to → done runs (assign to slice e) (moment f s u r) ≡ with_test (test_value runs e (moment f s u r)) (λ v k. with_cells (put_value slot slice v k.cells) k)
  found slot is =
      ap (λ (o : Option ℕ). with_slot_at o (moment f s u r) (λ slot. with_test (test_value runs e (moment f s u r)) (λ v k. with_cells (put_value slot slice v k.cells) k))) (sym is)

  pub was_assigned : (slot number : ℕ) (v : Scalar) → Some slot ≡ slot_at f to → Gives g (test_value runs e (moment f s u r)) (moment h t u n) (Ok v) → number ≡ as_number (seen_scalar v) → new ≡ put slot slice number h → Comes g (done runs (assign to slice e) (moment f s u r)) (moment new t u n)
  was_assigned slot number v is gives numbers puts =
      frame_comes g (done runs (assign to slice e) (moment f s u r)) h new (put slot slice number h) t u n gives.over
      (found slot is
      ∙ ap (λ (x : Valued). with_test x (λ v k. with_cells (put_value slot slice v k.cells) k)) gives.gives
      ∙ ap (λ (k : ℕ). moment (put slot slice k h) t u n) (sym numbers)) puts refl

  pub assign_failed : (slot : ℕ) (error : ParserError) → Some slot ≡ slot_at f to → Gives g (test_value runs e (moment f s u r)) (moment h t u n) (Err error) → after ≡ stopped_by error n → Comes g (done runs (assign to slice e) (moment f s u r)) (moment h t u after)
  assign_failed slot error is gives stops =
      stopped_comes g (done runs (assign to slice e) (moment f s u r)) h t u n after error gives.over
      (found slot is ∙ ap (λ (x : Valued). with_test x (λ v k. with_cells (put_value slot slice v k.cells) k)) gives.gives) stops

-- a slot becomes another one with bits

module _ (g : Ground) (f : Cells) (s : Contents) (u : List ℕ) (r : Run) where
  pub slot_fixed : (slot : ℕ) → IsOver g (moment f s u r) → IsSlotPlace g.layout (slot_place.Fixed slot) → IsSlot f.layout slot
  slot_fixed slot over is = at_layout g (λ (l : Layout). IsSlot l slot) f s u r over is

  pub slot_read : (slot : ℕ) → IsOver g (moment f s u r) → slot < length g.layout.widths → slot < length f.layout.widths
  slot_read slot over is = at_layout g (λ (l : Layout). slot < length l.widths) f s u r over is

module _ (g : Ground) (runs : ℕ → Moment → Applied) (f new : Cells) (s : Contents) (u : List ℕ) (r : Run) (slice : Option Slice) (e : Test) where
  pub slot_assigned : (slot from number : ℕ) → IsOver g (moment f s u r) → e ≡ plain (ready.slot content.Bits from) → number ≡ slot_value f from → new ≡ put slot slice number f → Comes g (done runs (assign (slot_place.Fixed slot) slice e) (moment f s u r)) (moment new s u r)
  slot_assigned slot from number over tree is puts =
      frame_comes g (done runs (assign (slot_place.Fixed slot) slice e) (moment f s u r)) f new (put slot slice number f) s u r over
      (ap (λ (x : Test). done runs (assign (slot_place.Fixed slot) slice x) (moment f s u r)) tree
      ∙ ap (λ (k : ℕ). moment (put slot slice k f) s u r) (sym is)) puts refl

module _ (g : Ground) (runs : ℕ → Moment → Applied) (f h new : Cells) (s t : Contents) (u : List ℕ) (r n after : Run) (to : RangePlace) (from : Source) where
  pub range_beyond : IsOver g (moment f s u r) → None ≡ range_at f to → after ≡ stopped_by StackOutOfBounds r → Comes g (done runs (assign_parts to from) (moment f s u r)) (moment f s u after)
  range_beyond over none stops =
      stopped_comes g (done runs (assign_parts to from) (moment f s u r)) f s u r after StackOutOfBounds over
      (ap (λ (o : Option Range). with_range o (moment f s u r) (λ x. with_source (source_range runs from (moment f s u r)) (λ y k. with_cells (copied y x k.cells) k))) (sym none)) stops

  found_range : (range : Range) → Some range ≡ range_at f to → done runs (assign_parts to from) (moment f s u r) ≡ with_source (source_range runs from (moment f s u r)) (λ y k. with_cells (copied y range k.cells) k)
  found_range range is =
      ap (λ (o : Option Range). with_range o (moment f s u r) (λ x. with_source (source_range runs from (moment f s u r)) (λ y k. with_cells (copied y x k.cells) k))) (sym is)

  pub were_assigned : (range x : Range) → Some range ≡ range_at f to → Finds g (source_range runs from (moment f s u r)) (moment h t u n) (Ok x) → new ≡ copied x range h → new.layout ≡ h.layout → Comes g (done runs (assign_parts to from) (moment f s u r)) (moment new t u n)
  were_assigned range x is finds copies layout =
      frame_comes g (done runs (assign_parts to from) (moment f s u r)) h new (copied x range h) t u n finds.over
      (found_range range is ∙ ap (λ (y : Reached). with_source y (λ y k. with_cells (copied y range k.cells) k)) finds.finds) copies
      (ap (λ (c : Cells). c.layout) (sym copies) ∙ layout)

  pub assign_parts_failed : (range : Range) (error : ParserError) → Some range ≡ range_at f to → Finds g (source_range runs from (moment f s u r)) (moment h t u n) (Err error) → after ≡ stopped_by error n → Comes g (done runs (assign_parts to from) (moment f s u r)) (moment h t u after)
  assign_parts_failed range error is finds stops =
      stopped_comes g (done runs (assign_parts to from) (moment f s u r)) h t u n after error finds.over
      (found_range range is ∙ ap (λ (y : Reached). with_source y (λ y k. with_cells (copied y range k.cells) k)) finds.finds) stops

module _ (g : Ground) (runs : ℕ → Moment → Applied) (h : Cells) (t : Contents) (u : List ℕ) (n after : Run) (old : Moment) (e : Test) where
  pub let_go_goes : (v : Scalar) → Gives g (test_value runs e old) (moment h t u n) (Ok v) → Comes g (done runs (let_go e) old) (moment h t u n)
  let_go_goes v gives = record { over = gives.over; comes = ap (λ (x : Valued). with_test x (λ v k. k)) gives.gives }

  pub let_go_failed : (error : ParserError) → Gives g (test_value runs e old) (moment h t u n) (Err error) → after ≡ stopped_by error n → Comes g (done runs (let_go e) old) (moment h t u after)
  let_go_failed error gives stops =
      stopped_comes g (done runs (let_go e) old) h t u n after error gives.over (ap (λ (x : Valued). with_test x (λ v k. k)) gives.gives) stops
