-- What the end of a statement comes to, and what is there at a later moment over the same frames.
use Rattle.std.proofs.Common.{◌≡◌, ℕ, List, Bool, Option, Some, None, refl, sym, ap, subst, ◌∙◌}
use Rattle.state_store.specs.State.{Contents}
use Rattle.v1_core.specs.declared.parser_error.ParserError.{ParserError}
use Rattle.v1_core.specs.Frames.{Hit}
use Rattle.v1_core.specs.Cells.{Cells}
use Rattle.v1_core.specs.Layouts.{Layout}
use Rattle.v1_ready_blocks.specs.Moments.{Moment, raised}
use Rattle.v1_ready_blocks.specs.Nodes.{Ground}
use Rattle.v1_statement_run.specs.declared.run.Run.{Run}
use Rattle.v1_statement_run.specs.Seen.{moment, seen_hit}
use Rattle.v1_statement_run.specs.Steps.{IsOver, Comes, first_error, stopped_by}

stopped_is : (f : Cells) (w : Cells) (s : Contents) (u : List ℕ) (emitted : List Bool) (work : ℕ) (stopped : Option ParserError) (hit : Option Hit) (e : ParserError) →
    let m : Option ParserError → Moment = λ x. record { cells = f; waiting = w; store = s; unparsed = u; emitted = emitted; work = work; stopped = x; hit = hit } in
    m (Some (first_error stopped e)) ≡ raised e (m stopped)
stopped_is f w s u emitted work None hit e = refl
stopped_is f w s u emitted work (Some earlier) hit e = refl

pub stop_raises : (f : Cells) (s : Contents) (u : List ℕ) (r : Run) (e : ParserError) → moment f s u (stopped_by e r) ≡ raised e (moment f s u r)
stop_raises f s u r e = stopped_is f r.waiting s u r.emitted r.work r.stopped (seen_hit r.hit) e

module _ (g : Ground) where
  -- an error stopped it
  pub stopped_comes : (due : Moment) (f : Cells) (s : Contents) (u : List ℕ) (r after : Run) (e : ParserError) → IsOver g (moment f s u r) → due ≡ raised e (moment f s u r) → after ≡ stopped_by e r → Comes g due (moment f s u after)
  stopped_comes due f s u r after e over is stops = record {
    over = subst (λ (n : Run). IsOver g (moment f s u n)) (sym stops) (record { cells = over.cells; waiting = over.waiting; shapes = over.shapes });
    comes = is ∙ sym (stop_raises f s u r e) ∙ ap (λ (n : Run). moment f s u n) (sym stops);
  }

  -- the frame changed
  pub frame_comes : (due : Moment) (f new to : Cells) (s : Contents) (u : List ℕ) (r : Run) → IsOver g (moment f s u r) → due ≡ moment to s u r → new ≡ to → to.layout ≡ f.layout → Comes g due (moment new s u r)
  frame_comes due f new to s u r over is put layout = record {
    over = record { cells = ap (λ (c : Cells). c.layout) put ∙ layout ∙ over.cells; waiting = over.waiting; shapes = over.shapes };
    comes = is ∙ ap (λ (c : Cells). moment c s u r) (sym put);
  }

  pub at_layout : (P : Layout → Type 0) (f : Cells) (s : Contents) (u : List ℕ) (r : Run) → IsOver g (moment f s u r) → P g.layout → P f.layout
  at_layout P f s u r over is = subst P (sym over.cells) is

  pub to_ground : (P : Layout → Type 0) (f : Cells) (s : Contents) (u : List ℕ) (r : Run) → IsOver g (moment f s u r) → P f.layout → P g.layout
  to_ground P f s u r over is = subst P over.cells is
