-- What one parameter starts with.
use Rattle.std.proofs.Common.{◌≡◌, ℕ, List, Bool, true, false, cond, Option, Some, None, Ok, Err, refl, sym, ap, subst, ◌∙◌}
use Rattle.state_store.specs.State.{Contents}
use Rattle.v1_core.specs.declared.parser_error.ParserError.{ParserError}
use Rattle.v1_core.specs.Frames.{Hit}
use Rattle.v1_core.specs.Values.{as_number}
use Rattle.v1_core.specs.Cells.{Cells}
use Rattle.v1_core.specs.Layouts.{Layout}
use Rattle.v1_core.specs.declared.scalar.Scalar.{Scalar}
use Rattle.v1_core.specs.Scalars.{seen_scalar}
use Rattle.v1_ready_blocks.specs.declared.places.Range.{Range}
use Rattle.v1_ready_blocks.specs.Moments.{Moment, raised}
use Rattle.v1_ready_blocks.specs.Places.{put, copied, taken, emptied}
use Rattle.v1_ready_blocks.specs.Tests.{Applied, Test, Valued, test_value, with_test, Source, Reached, source_range, with_source}
use Rattle.v1_ready_blocks.specs.Arguments.{Incoming, value_in, parts_in, zero_in, placed, waits, value_placed, parts_placed, value_waits, parts_wait}
use Rattle.v1_ready_blocks.specs.Nodes.{Ground, IsSlot, IsRange}
use Rattle.v1_statement_run.specs.declared.run.Run.{Run}
use Rattle.v1_statement_run.specs.Seen.{moment, seen_hit}
use Rattle.v1_statement_run.specs.Steps.{IsOver, Comes, Gives, Finds, first_error, stopped_by}
use Rattle.v1_statement_run.specs.Bringing.{brought}

abbrev pub with_waiting : Cells → Run → Run
with_waiting c r = record r { waiting = c }

stopped_is : (f : Cells) (w : Cells) (s : Contents) (u : List ℕ) (emitted : List Bool) (work : ℕ) (stopped : Option ParserError) (hit : Option Hit) (e : ParserError) →
    let m : Option ParserError → Moment = λ x. record { cells = f; waiting = w; store = s; unparsed = u; emitted = emitted; work = work; stopped = x; hit = hit } in
    m (Some (first_error stopped e)) ≡ raised e (m stopped)
stopped_is f w s u emitted work None hit e = refl
stopped_is f w s u emitted work (Some earlier) hit e = refl

module _ (g : Ground) (f : Cells) (s : Contents) (u : List ℕ) (r : Run) (over : IsOver g (moment f s u r)) where
  pub slot_now : (slot : ℕ) → IsSlot g.layout slot → IsSlot f.layout slot
  slot_now slot is = subst (λ (l : Layout). IsSlot l slot) (sym over.cells) is

  pub slot_waiting : (slot : ℕ) → IsSlot g.layout slot → IsSlot r.waiting.layout slot
  slot_waiting slot is = subst (λ (l : Layout). IsSlot l slot) (sym over.waiting) is

  pub range_now : (range : Range) → IsRange g.layout range → IsRange f.layout range
  range_now range is = subst (λ (l : Layout). IsRange l range) (sym over.cells) is

  pub range_waiting : (range : Range) → IsRange g.layout range → IsRange r.waiting.layout range
  range_waiting range is = subst (λ (l : Layout). IsRange l range) (sym over.waiting) is

module _ (g : Ground) (runs : ℕ → Moment → Applied) (apart : Bool) (old : Moment) (f : Cells) (s : Contents) (u : List ℕ) (r : Run) where
  at_once : (a : Incoming) (new due : Cells) → apart ≡ false → IsOver g (moment f s u r) → placed runs a old ≡ moment due s u r → new ≡ due → due.layout ≡ f.layout → Comes g (brought runs apart a old) (moment new s u r)
  at_once a new due off over is puts layout = record {
    over = record { cells = ap (λ (c : Cells). c.layout) puts ∙ layout ∙ over.cells; waiting = over.waiting; shapes = over.shapes };
    comes =
        ap (λ (b : Bool). cond b (waits runs a old) (placed runs a old)) off ∙ is ∙ ap (λ (c : Cells). moment c s u r) (sym puts);
  }

  later : (a : Incoming) (new due : Cells) → apart ≡ true → IsOver g (moment f s u r) → waits runs a old ≡ moment f s u (with_waiting due r) → new ≡ due → due.layout ≡ r.waiting.layout → Comes g (brought runs apart a old) (moment f s u (with_waiting new r))
  later a new due on over is puts layout = record {
    over = record { cells = over.cells; waiting = ap (λ (c : Cells). c.layout) puts ∙ layout ∙ over.waiting; shapes = over.shapes };
    comes =
        ap (λ (b : Bool). cond b (waits runs a old) (placed runs a old)) on
        ∙ is ∙ ap (λ (c : Cells). moment f s u (with_waiting c r)) (sym puts);
  }

  fails : (a : Incoming) (after : Run) (e : ParserError) → IsOver g (moment f s u r) → placed runs a old ≡ raised e (moment f s u r) → waits runs a old ≡ raised e (moment f s u r) → after ≡ stopped_by e r → Comes g (brought runs apart a old) (moment f s u after)
  fails a after e over once wait stops = record {
    over = subst (λ (n : Run). IsOver g (moment f s u n)) (sym stops) (record { cells = over.cells; waiting = over.waiting; shapes = over.shapes });
    comes =
        either apart
        ∙ sym (stopped_is f r.waiting s u r.emitted r.work r.stopped (seen_hit r.hit) e)
        ∙ ap (λ (n : Run). moment f s u n) (sym stops);
  }
    where
      either : (b : Bool) → cond b (waits runs a old) (placed runs a old) ≡ raised e (moment f s u r)
      either true = wait
      either false = once

  pub value_was_placed : (new : Cells) (to number : ℕ) (t : Test) (v : Scalar) → apart ≡ false → Gives g (test_value runs t old) (moment f s u r) (Ok v) → number ≡ as_number (seen_scalar v) → new ≡ put to None number f → Comes g (brought runs apart (value_in to t) old) (moment new s u r)
  value_was_placed new to number t v off gives numbers puts =
      at_once (value_in to t) new (put to None number f) off gives.over
      (ap (λ (x : Valued). with_test x (value_placed to)) gives.gives ∙ ap (λ (k : ℕ). moment (put to None k f) s u r) (sym numbers)) puts refl

  pub value_waited : (new : Cells) (to number : ℕ) (t : Test) (v : Scalar) → apart ≡ true → Gives g (test_value runs t old) (moment f s u r) (Ok v) → number ≡ as_number (seen_scalar v) → new ≡ put to None number r.waiting → Comes g (brought runs apart (value_in to t) old) (moment f s u (with_waiting new r))
  value_waited new to number t v on gives numbers puts =
      later (value_in to t) new (put to None number r.waiting) on gives.over
      (ap (λ (x : Valued). with_test x (value_waits to)) gives.gives ∙ ap (λ (k : ℕ). moment f s u (with_waiting (put to None k r.waiting) r)) (sym numbers)) puts refl

  pub value_failed : (after : Run) (to : ℕ) (t : Test) (e : ParserError) → Gives g (test_value runs t old) (moment f s u r) (Err e) → after ≡ stopped_by e r → Comes g (brought runs apart (value_in to t) old) (moment f s u after)
  value_failed after to t e gives stops =
      fails (value_in to t) after e gives.over (ap (λ (x : Valued). with_test x (value_placed to)) gives.gives)
      (ap (λ (x : Valued). with_test x (value_waits to)) gives.gives) stops

  pub parts_were_placed : (new : Cells) (to x : Range) (from : Source) → apart ≡ false → Finds g (source_range runs from old) (moment f s u r) (Ok x) → new ≡ copied x to f → new.layout ≡ f.layout → Comes g (brought runs apart (parts_in to from) old) (moment new s u r)
  parts_were_placed new to x from off finds copies layout =
      at_once (parts_in to from) new (copied x to f) off finds.over
      (ap (λ (y : Reached). with_source y (λ z n. parts_placed z to n)) finds.finds) copies (ap (λ (c : Cells). c.layout) (sym copies) ∙ layout)

  pub parts_waited : (new : Cells) (to x : Range) (from : Source) → apart ≡ true → Finds g (source_range runs from old) (moment f s u r) (Ok x) → new ≡ taken x to f r.waiting → new.layout ≡ r.waiting.layout → Comes g (brought runs apart (parts_in to from) old) (moment f s u (with_waiting new r))
  parts_waited new to x from on finds takes layout =
      later (parts_in to from) new (taken x to f r.waiting) on finds.over
      (ap (λ (y : Reached). with_source y (λ z n. parts_wait z to n)) finds.finds) takes (ap (λ (c : Cells). c.layout) (sym takes) ∙ layout)

  pub parts_failed : (after : Run) (to : Range) (from : Source) (e : ParserError) → Finds g (source_range runs from old) (moment f s u r) (Err e) → after ≡ stopped_by e r → Comes g (brought runs apart (parts_in to from) old) (moment f s u after)
  parts_failed after to from e finds stops =
      fails (parts_in to from) after e finds.over (ap (λ (y : Reached). with_source y (λ z n. parts_placed z to n)) finds.finds)
      (ap (λ (y : Reached). with_source y (λ z n. parts_wait z to n)) finds.finds) stops

module _ (g : Ground) (runs : ℕ → Moment → Applied) (apart : Bool) (f : Cells) (s : Contents) (u : List ℕ) (r : Run) (over : IsOver g (moment f s u r)) where
  pub was_emptied : (new : Cells) (to : Range) → apart ≡ false → new ≡ emptied to f → new.layout ≡ f.layout → Comes g (brought runs apart (zero_in to) (moment f s u r)) (moment new s u r)
  was_emptied new to off is layout =
      at_once g runs apart (moment f s u r) f s u r (zero_in to) new (emptied to f) off over refl is (ap (λ (c : Cells). c.layout) (sym is) ∙ layout)

  pub emptied_apart : (new : Cells) (to : Range) → apart ≡ true → new ≡ emptied to r.waiting → new.layout ≡ r.waiting.layout → Comes g (brought runs apart (zero_in to) (moment f s u r)) (moment f s u (with_waiting new r))
  emptied_apart new to on is layout =
      later g runs apart (moment f s u r) f s u r (zero_in to) new (emptied to r.waiting) on over refl is (ap (λ (c : Cells). c.layout) (sym is) ∙ layout)
