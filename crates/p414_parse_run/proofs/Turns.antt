-- Turns of the loops over rows.
use Rattle.std.proofs.Common.{◌≡◌, ℕ, suc, ◌+◌, ◌-◌, ◌<◌, List, [], ◌∷◌, length, get_or, drop, refl, sym, ap, ◌∙◌, drop-cons, add-one, arith}
use Rattle.std.specs.List.{fold}
use Rattle.p414_sem.specs.declared.parsed.Parsed.{Parsed}
use Rattle.p414_sem.specs.Parsing.{Parse}
use Rattle.p414_sem.specs.State.{State}
use Rattle.p414_layout.specs.declared.shape.Shape.{Shape}
use Rattle.p414_state.specs.Packets.{Packet}
use Rattle.p414_ready_parser.specs.declared.rows.Next.{Next}
use Rattle.p414_ready_parser.specs.declared.rows.ReadyState.{ReadyState}
use Rattle.p414_ready_parser.specs.declared.rows.ReadyStatement.{ReadyStatement}
use Rattle.p414_ready_parser.specs.Running as run
use Rattle.p414_parse_run.specs.declared.going.Going.{Going}
use Rattle.p414_parse_run.specs.declared.going.Going.TheVariants as going
use Rattle.p414_parse_run.specs.declared.going.GoingTo.{GoingTo}
use Rattle.p414_parse_run.specs.declared.going.GoingTo.TheVariants as going_to
use Rattle.p414_parse_run.specs.Shown.{widths_in, shown_going, shown_to, IsDone, IsRun, IsParsed}

pub next_items : {X : Type 0} (xs : List X) (i : ℕ) (d : X) → i < length xs → drop i xs ≡ get_or xs i d ∷ drop (i + 1) xs
next_items xs i d h = rw (add-one, drop-cons xs i d h) refl

-- statements

pub ended : (widths : ℕ → List ℕ) (end : Parsed) (s : State) (rest : List ReadyStatement) → fold (run.do_next widths) (run.stops end s) rest ≡ run.stops end s
ended widths end s [] = refl
ended widths end s (r ∷ rest) = ended widths end s rest

-- one more was run, and came to this
pub one_more : (old now : List Shape) (statements : List ReadyStatement) (i element : ℕ) (d : ReadyStatement) (s : State) (shown due : run.Going) → i < length statements → now ≡ old → shown ≡ run.do_row (widths_in now) (get_or statements i d) element s → fold (run.do_next (widths_in old)) (run.goes_on element s) (drop i statements) ≡ due → fold (run.do_next (widths_in old)) shown (drop (i + 1) statements) ≡ due
one_more old now statements i element d s shown due lt same came so =
    ap (λ (g : run.Going). fold (run.do_next (widths_in old)) g (drop (i + 1) statements))
    (came ∙ ap (λ (l : List Shape). run.do_row (widths_in l) (get_or statements i d) element s) same)
    ∙ ap (fold (run.do_next (widths_in old)) (run.goes_on element s)) (sym (next_items statements i d lt))
    ∙ so

-- and it ended parsing
pub stopped : (old now new : Packet) (statements : List ReadyStatement) (i element : ℕ) (d : ReadyStatement) (g : Going) (end : Parsed) → i < length statements → now.layout ≡ old.layout → fold (run.do_next (widths_in old.layout)) (run.goes_on element now.state) (drop i statements) ≡ fold (run.do_next (widths_in old.layout)) (run.goes_on 0 old.state) statements → IsDone now new (shown_going g new.state) (run.do_row (widths_in now.layout) (get_or statements i d) element now.state) → g ≡ going.Stopped end → IsDone old new (run.stops end new.state) (fold (run.do_next (widths_in old.layout)) (run.goes_on 0 old.state) statements)
stopped old now new statements i element d g end lt same so done is = record {
  layout = done.layout ∙ same;
  goes =
      sym (ended (widths_in old.layout) end new.state (drop (i + 1) statements))
      ∙ ap (λ (h : Going). fold (run.do_next (widths_in old.layout)) (shown_going h new.state) (drop (i + 1) statements)) (sym is)
      ∙ one_more old.layout now.layout statements i element d now.state (shown_going g new.state) (fold (run.do_next (widths_in old.layout)) (run.goes_on 0 old.state) statements) lt same done.goes so;
}

-- states, of which so many may still be run

pub one_state : (old now : List Shape) (states : List ReadyState) (most i : ℕ) (n : Next) (s : State) (shown : run.GoingTo) (due : Parse) → i < most → now ≡ old → shown ≡ run.run_next (widths_in now) states n s → run.run_from (widths_in old) states (most - i) n s ≡ due → run.run_on (run.run_from (widths_in old) states (most - (i + 1))) shown ≡ due
one_state old now states most i n s shown due lt same came so =
    let left : most - i ≡ suc (most - (i + 1)) = omega arith in
    ap (run.run_on (run.run_from (widths_in old) states (most - (i + 1)))) (came ∙ ap (λ (l : List Shape). run.run_next (widths_in l) states n s) same)
    ∙ ap (λ (k : ℕ). run.run_from (widths_in old) states k n s) (sym left)
    ∙ so

-- one was run and parsing goes on, or it ended

pub goes_further : (old now new : Packet) (states : List ReadyState) (most i : ℕ) (n next : Next) (g : GoingTo) (due : Parse) → i < most → now.layout ≡ old.layout → run.run_from (widths_in old.layout) states (most - i) n now.state ≡ due → IsRun now new (shown_to g new.state) (run.run_next (widths_in now.layout) states n now.state) → g ≡ going_to.To next → run.run_from (widths_in old.layout) states (most - (i + 1)) next new.state ≡ due
goes_further old now new states most i n next g due lt same so done is =
    ap (λ (h : GoingTo). run.run_on (run.run_from (widths_in old.layout) states (most - (i + 1))) (shown_to h new.state)) (sym is)
    ∙ one_state old.layout now.layout states most i n now.state (shown_to g new.state) due lt same done.goes so

pub ends : (old now new : Packet) (states : List ReadyState) (most i : ℕ) (n : Next) (end : Parsed) (g : GoingTo) (due : Parse) → i < most → now.layout ≡ old.layout → run.run_from (widths_in old.layout) states (most - i) n now.state ≡ due → IsRun now new (shown_to g new.state) (run.run_next (widths_in now.layout) states n now.state) → g ≡ going_to.Ended end → IsParsed old new due end
ends old now new states most i n end g due lt same so done is =
    let here : record { end = end; state = new.state } ≡ due =
    ap (λ (h : GoingTo). run.run_on (run.run_from (widths_in old.layout) states (most - (i + 1))) (shown_to h new.state)) (sym is)
    ∙ one_state old.layout now.layout states most i n now.state (shown_to g new.state) due lt same done.goes so in
    record { layout = done.layout ∙ same; end = ap (λ (q : Parse). q.end) here; state = ap (λ (q : Parse). q.state) here }
