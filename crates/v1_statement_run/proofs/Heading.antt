-- What statements on headers and stacks come to.
use Rattle.std.proofs.Common.{◌≡◌, ℕ, ◌+◌, ◌*◌, ◌/◌, ◌++◌, List, Bool, true, false, nat_lt, cond, drop, length, Option, Some, None, Ok, Err, refl, sym, ap, subst, ◌∙◌}
use Rattle.state_store.specs.State.{Contents}
use Rattle.v1_core.specs.declared.parser_error.ParserError.{ParserError}
use Rattle.v1_core.specs.declared.parser_error.ParserError.TheVariants.{StackOutOfBounds, PacketTooShort}
use Rattle.v1_core.specs.Cells.{Cells, with_validity}
use Rattle.v1_core.specs.Layouts.{Layout}
use Rattle.v1_ready_blocks.specs.declared.places.Range.{Range}
use Rattle.v1_ready_blocks.specs.declared.places.RangePlace.{RangePlace}
use Rattle.v1_ready_blocks.specs.Moments.{Moment, raised}
use Rattle.v1_ready_blocks.specs.Places.{range_at}
use Rattle.v1_ready_blocks.specs.Stacks.{pushed, popped}
use Rattle.v1_ready_blocks.specs.Tests.{Applied, Source, Reached, source_range, with_source, with_range}
use Rattle.v1_ready_blocks.specs.Packets.{total_width, extracted, moved, moved_on, extract, emit, element_bits}
use Rattle.v1_ready_blocks.specs.Statements.{set_valid, push_front, pop_front, extract_header, emit_headers, header_made, done}
use Rattle.v1_ready_blocks.specs.Nodes.{Ground, IsRange, IsRangePlace, IsHeaderPlace}
use Rattle.v1_statement_run.specs.declared.run.Run.{Run}
use Rattle.v1_statement_run.specs.Seen.{moment}
use Rattle.v1_statement_run.specs.Parts.{IsFilled}
use Rattle.v1_statement_run.specs.Steps.{IsOver, Comes, Finds, stopped_by}
use Rattle.v1_statement_run.proofs.Coming.{stopped_comes, frame_comes, at_layout}

module _ (g : Ground) (f : Cells) (s : Contents) (u : List ℕ) (r : Run) where
  pub header_over : (to : RangePlace) → IsOver g (moment f s u r) → IsHeaderPlace g.layout to → IsHeaderPlace f.layout to
  header_over to over is = at_layout g (λ (l : Layout). IsHeaderPlace l to) f s u r over is

  pub range_fixed : (range : Range) → IsOver g (moment f s u r) → IsRange g.layout range → IsRange f.layout range
  range_fixed range over is = at_layout g (λ (l : Layout). IsRange l range) f s u r over is

  pub place_over : (h : Cells) (to : RangePlace) → IsOver g (moment f s u r) → IsHeaderPlace g.layout to → h.layout ≡ f.layout → IsRangePlace h.layout to
  place_over h to over is same =
      let there : IsRangePlace f.layout to = at_layout g (λ (l : Layout). IsRangePlace l to) f s u r over is.range in
      subst (λ (l : Layout). IsRangePlace l to) (sym same) there

  pub source_now : (range : Range) → IsOver g (moment f s u r) → IsRange g.layout range → IsRange f.layout range
  source_now range over is = range_fixed range over is

module _ (g : Ground) (runs : ℕ → Moment → Applied) (f new : Cells) (s : Contents) (u : List ℕ) (r after : Run) where
  pub set_beyond : (header : RangePlace) (on : Bool) → IsOver g (moment f s u r) → None ≡ range_at f header → after ≡ stopped_by StackOutOfBounds r → Comes g (done runs (set_valid header on) (moment f s u r)) (moment f s u after)
  set_beyond header on over none stops =
      stopped_comes g (done runs (set_valid header on) (moment f s u r)) f s u r after StackOutOfBounds over
      (ap (λ (o : Option Range). with_range o (moment f s u r) (λ x. header_made on x (moment f s u r))) (sym none)) stops

  pub was_set : (header : RangePlace) (on : Bool) (range : Range) → IsOver g (moment f s u r) → Some range ≡ range_at f header → new ≡ with_validity f range.header on → Comes g (done runs (set_valid header on) (moment f s u r)) (moment new s u r)
  was_set header on range over is sets =
      frame_comes g (done runs (set_valid header on) (moment f s u r)) f new (with_validity f range.header on) s u r over
      (ap (λ (o : Option Range). with_range o (moment f s u r) (λ x. header_made on x (moment f s u r))) (sym is)) sets refl

  pub was_pushed : (stack : Range) (count : ℕ) → IsOver g (moment f s u r) → new ≡ pushed stack count f → new.layout ≡ f.layout → Comes g (done runs (push_front stack count) (moment f s u r)) (moment new s u r)
  was_pushed stack count over is layout =
      frame_comes g (done runs (push_front stack count) (moment f s u r)) f new (pushed stack count f) s u r over refl is (ap (λ (c : Cells). c.layout) (sym is) ∙ layout)

  pub was_popped : (stack : Range) (count : ℕ) → IsOver g (moment f s u r) → new ≡ popped stack count f → new.layout ≡ f.layout → Comes g (done runs (pop_front stack count) (moment f s u r)) (moment new s u r)
  was_popped stack count over is layout =
      frame_comes g (done runs (pop_front stack count) (moment f s u r)) f new (popped stack count f) s u r over refl is (ap (λ (c : Cells). c.layout) (sym is) ∙ layout)

module _ (g : Ground) (runs : ℕ → Moment → Applied) (f : Cells) (s : Contents) (u : List ℕ) (r after : Run) (header : RangePlace) where
  pub extract_beyond : IsOver g (moment f s u r) → None ≡ range_at f header → after ≡ stopped_by StackOutOfBounds r → Comes g (done runs (extract_header header) (moment f s u r)) (moment f s (drop 0 u) after)
  extract_beyond over none stops =
      stopped_comes g (done runs (extract_header header) (moment f s u r)) f s u r after StackOutOfBounds over
      (ap (λ (o : Option Range). with_range o (moment f s u r) (λ x. extract header x (moment f s u r))) (sym none)) stops

  found : (range : Range) → Some range ≡ range_at f header → done runs (extract_header header) (moment f s u r) ≡ extract header range (moment f s u r)
  found range is = ap (λ (o : Option Range). with_range o (moment f s u r) (λ x. extract header x (moment f s u r))) (sym is)

  pub extract_short : (h : Cells) (range : Range) → IsOver g (moment f s u r) → Some range ≡ range_at f header → nat_lt (total_width f range.slots range.slot) (8 * length u + 1) ≡ false → h ≡ f → after ≡ stopped_by PacketTooShort r → Comes g (done runs (extract_header header) (moment f s u r)) (moment h s (drop 0 u) after)
  extract_short h range over is few same stops =
      subst (λ (c : Cells). Comes g (done runs (extract_header header) (moment f s u r)) (moment c s u after)) (sym same)
      (stopped_comes g (done runs (extract_header header) (moment f s u r)) f s u r after PacketTooShort over
      (found range is ∙ ap (λ (b : Bool). cond b (moved header (extracted range (moment f s u r))) (raised PacketTooShort (moment f s u r))) few) stops)

  pub was_extracted : (h new : Cells) (range : Range) (count : ℕ) → IsOver g (moment f s u r) → Some range ≡ range_at f header → nat_lt (total_width f range.slots range.slot) (8 * length u + 1) ≡ true → IsFilled range u f h count → h.layout ≡ f.layout → new ≡ moved_on header h → new.layout ≡ h.layout → Comes g (done runs (extract_header header) (moment f s u r)) (moment new s (drop count u) r)
  was_extracted h new range count over is enough fills layout moves further = record {
    over = record { cells = further ∙ layout ∙ over.cells; waiting = over.waiting; shapes = over.shapes };
    comes =
        found range is
        ∙ ap (λ (b : Bool). cond b (moved header (extracted range (moment f s u r))) (raised PacketTooShort (moment f s u r))) enough
        ∙ ap (λ (c : Cells). moved header (moment c s (drop (total_width f range.slots range.slot / 8) u) r)) (sym fills.fields)
        ∙ ap (λ (k : ℕ). moved header (moment h s (drop k u) r)) (sym fills.taken)
        ∙ ap (λ (c : Cells). moment c s (drop count u) r) (sym moves);
  }

-- emission

abbrev pub with_emitted : List Bool → Run → Run
with_emitted emitted r = record r { emitted = emitted }

module _ (g : Ground) (runs : ℕ → Moment → Applied) (old : Moment) (f : Cells) (s : Contents) (u : List ℕ) (r : Run) (from : Source) where
  pub were_emitted : (range : Range) (emitted : List Bool) → Finds g (source_range runs from old) (moment f s u r) (Ok range) → emitted ≡ r.emitted ++ element_bits f range 0 range.headers → Comes g (done runs (emit_headers from) old) (moment f s u (with_emitted emitted r))
  were_emitted range emitted finds is = record {
    over = record { cells = finds.over.cells; waiting = finds.over.waiting; shapes = finds.over.shapes };
    comes =
        ap (λ (x : Reached). with_source x emit) finds.finds
        ∙ ap (λ (l : List Bool). moment f s u (with_emitted l r)) (sym is);
  }

  pub emit_failed : (after : Run) (error : ParserError) → Finds g (source_range runs from old) (moment f s u r) (Err error) → after ≡ stopped_by error r → Comes g (done runs (emit_headers from) old) (moment f s u after)
  emit_failed after error finds stops =
      stopped_comes g (done runs (emit_headers from) old) f s u r after error finds.over (ap (λ (x : Reached). with_source x emit) finds.finds) stops
