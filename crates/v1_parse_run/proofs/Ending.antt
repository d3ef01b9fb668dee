-- The end of parsing.
use Rattle.std.proofs.Common.{◌≡◌, ℕ, List, Bool, Option, Some, None, refl, sym, ap, subst, ◌∙◌}
use Rattle.state_store.specs.State.{Contents}
use Rattle.v1_core.specs.declared.parser_error.ParserError.{ParserError}
use Rattle.v1_core.specs.Frames.{Hit, error_number}
use Rattle.v1_core.specs.Cells.{Cells, with_slot}
use Rattle.v1_ready_blocks.specs.Moments.{Moment}
use Rattle.v1_ready_blocks.specs.Nodes.{Ground}
use Rattle.v1_statement_run.specs.declared.run.Run.{Run}
use Rattle.v1_statement_run.specs.Seen.{moment, seen_hit}
use Rattle.v1_ready_states.specs.States.{parse_ended, with_error}
use Rattle.v1_statement_run.specs.Steps.{IsOver}
use Rattle.v1_parse_run.specs.Working.{ended_cells, unstopped}

-- by the error that stopped it

abbrev stopped_run : Option ParserError → Run → Run
stopped_run o r = record r { stopped = o }

pub nothing_stopped : (r : Run) → None ≡ r.stopped → r ≡ unstopped r
nothing_stopped r none = ap (λ (o : Option ParserError). stopped_run o r) (sym none)

pub one_stopped : (slot : ℕ) (o : Option ParserError) (e : ParserError) (c new : Cells) → Some e ≡ o → new ≡ with_slot c slot (error_number e) → new ≡ ended_cells slot o c
one_stopped slot o e c new is puts = puts ∙ ap (λ (p : Option ParserError). ended_cells slot p c) is

-- the moment

ended_is : (f : Cells) (w : Cells) (s : Contents) (u : List ℕ) (emitted : List Bool) (work : ℕ) (hit : Option Hit) (slot : ℕ) (o : Option ParserError) →
    let m : Cells → Option ParserError → Moment = λ c x. record { cells = c; waiting = w; store = s; unparsed = u; emitted = emitted; work = work; stopped = x; hit = hit } in
    m (ended_cells slot o f) None ≡ with_error slot o (m f o)
ended_is f w s u emitted work hit slot None = refl
ended_is f w s u emitted work hit slot (Some e) = refl

layout_by : (slot : ℕ) (o : Option ParserError) (c : Cells) → (ended_cells slot o c).layout ≡ c.layout
layout_by slot None c = refl
layout_by slot (Some e) c = refl

module _ (f : Cells) (s : Contents) (u : List ℕ) (r : Run) (slot : ℕ) (new : Cells) (q : Run) (cells : new ≡ ended_cells slot r.stopped f) (is : q ≡ unstopped r) where
  pub ends : moment new s u q ≡ (parse_ended slot (moment f s u r)).moment
  ends =
      ap (λ (c : Cells). moment c s u q) cells
      ∙ ap (moment (ended_cells slot r.stopped f) s u) is
      ∙ ended_is f r.waiting s u r.emitted r.work (seen_hit r.hit) slot r.stopped

  pub ended_over : (g : Ground) → IsOver g (moment f s u r) → IsOver g (moment new s u q)
  ended_over g over =
      subst (λ (n : Run). IsOver g (moment new s u n)) (sym is)
      (record { cells = ap (λ (c : Cells). c.layout) cells ∙ layout_by slot r.stopped f ∙ over.cells; waiting = over.waiting; shapes = over.shapes })
