-- A state, the turns over states and the whole run of a parser, by what each leaves.
use Rattle.std.proofs.Common.{◌≡◌, ℕ, ◌+◌, ◌*◌, ◌-◌, List, Bool, true, false, cond, is_some, length, drop, Option, refl, sym, ap, ◌∙◌}
use Rattle.std.proofs.lemmas.List.{length-map}
use Rattle.std.specs.Prelude.{unwrap_or}
use Rattle.state_store.specs.State.{Contents}
use Rattle.v1_core.specs.declared.parser_error.ParserError.{ParserError}
use Rattle.v1_core.specs.declared.parser_error.ParserError.TheVariants.{NoError, PacketTooShort}
use Rattle.v1_core.specs.Cells.{Cells}
use Rattle.v1_ready_selects.specs.declared.rows.Led.{Led}
use Rattle.v1_ready_selects.specs.declared.rows.Led.TheVariants.{To, Failed}
use Rattle.v1_ready_selects.specs.declared.rows.Next.TheVariants as next
use Rattle.v1_ready_selects.specs.Selects.{Transition, lead}
use Rattle.v1_ready_blocks.specs.Blocks.{parser_run}
use Rattle.v1_ready_blocks.specs.Moments.{Moment, is_stopped, ticked}
use Rattle.v1_ready_blocks.specs.Nodes.{statement_at}
use Rattle.v1_statement_run.specs.declared.run.Run.{Run}
use Rattle.v1_statement_run.specs.Seen.{moment}
use Rattle.v1_ready_states.specs.declared.states.ReadyState.{ReadyState}
use Rattle.v1_ready_states.specs.declared.states.ReadyParser.{ReadyParser}
use Rattle.v1_ready_states.specs.Rows.{state_of}
use Rattle.v1_ready_states.specs.States.{State, Parser, finished, passed, in_state, parse_from, parse_ended, ready_parse, run_states, to_led, with_headers_empty}
use Rattle.v1_statement_run.specs.Steps.{ground_of, stopped_by}
use Rattle.v1_parse_run.specs.Made.{Made, made_parser, made_states, shown_onward}
use Rattle.v1_block_run.specs.declared.block.ReadyBlock.{ReadyBlock}
use Rattle.v1_block_run.specs.Steps.{ticked_run}
use Rattle.v1_parse_run.specs.declared.machine.ParserMachine.{ParserMachine}
use Rattle.v1_parse_run.specs.Working.{Works, ended_cells, led_next, led_run, moment_of, unstopped}
use Rattle.v1_parse_run.proofs.Holding.{raises, runs_on}
use Rattle.v1_parse_run.proofs.Ending.{ended_over}

-- a transition

led_shown : (f : Cells) (s : Contents) (u : List ℕ) (r : Run) (led : Led) → shown_onward (led_next led) (moment f s u (led_run led r)) ≡ to_led led (moment f s u r)
led_shown f s u r (To (next.State number)) = refl
led_shown f s u r (To next.End) = refl
led_shown f s u r (Failed e) = ap finished (raises f s u r (stopped_by e r) e refl)

led_waits : (r : Run) (led : Led) → (led_run led r).waiting ≡ r.waiting
led_waits r (To n) = refl
led_waits r (Failed e) = refl

passed_on : (f : Cells) (s : Contents) (u : List ℕ) (t : Transition) (r q w : Run) (led : Led) (o : Option ℕ) → is_some r.stopped ≡ false → led ≡ lead f u t → w ≡ ticked_run r → o ≡ led_next led → q ≡ led_run led w → shown_onward o (moment f s u q) ≡ passed t (moment f s u r)
passed_on f s u t r q w led o running leads counted onwards follows =
    ap (λ (p : Option ℕ). shown_onward p (moment f s u q)) onwards
    ∙ ap (λ (x : Run). shown_onward (led_next led) (moment f s u x)) (follows ∙ ap (led_run led) counted)
    ∙ led_shown f s u (ticked_run r) led
    ∙ ap (λ (l : Led). to_led l (ticked (moment f s u r))) leads
    ∙ ap (λ (b : Bool). cond b (finished (moment f s u r)) (to_led (lead f u t) (ticked (moment f s u r)))) (sym running)

-- a state

pub state_stops : (x : State) (before after : Moment) → after ≡ parser_run x.body before → is_stopped after ≡ true → finished after ≡ in_state x before
state_stops x before after ran told =
    ap (λ (b : Bool). cond b (finished after) (to_led (lead after.cells after.unparsed x.transition) (ticked after))) (sym told)
    ∙ ap (passed x.transition) ran

module _ (f : Cells) (s : Contents) (octets : List ℕ) (m n : ParserMachine) (w q : Run) (led : Led) (keeps : n.run ≡ m.run) (stays : n.parsed ≡ m.parsed) (counted : w ≡ ticked_run n.run) (follows : q ≡ led_run led w) where
  pub state_goes : (x : State) (before : Moment) (o : Option ℕ) → moment_of f s octets m ≡ parser_run x.body before → is_some m.run.stopped ≡ false → led ≡ lead f (drop m.parsed octets) x.transition → o ≡ led_next led → shown_onward o (moment f s (drop n.parsed octets) q) ≡ in_state x before
  state_goes x before o ran running leads onwards =
      ap (λ (k : ℕ). shown_onward o (moment f s (drop k octets) q)) stays
      ∙ passed_on f s (drop m.parsed octets) x.transition m.run q w led o running leads (counted ∙ ap ticked_run keeps) onwards follows
      ∙ ap (passed x.transition) ran

  pub state_works : (b : ReadyBlock) (k : ParserMachine) → Works b f s octets m → k.parsed ≡ n.parsed → k.run ≡ q → Works b f s octets k
  state_works b k works same is =
      runs_on b f s octets m k works (same ∙ stays)
      (ap (λ (x : Run). x.waiting.layout) is
      ∙ ap (λ (x : Run). x.waiting.layout) follows
      ∙ ap (λ (c : Cells). c.layout) (led_waits w led)
      ∙ ap (λ (x : Run). x.waiting.layout) counted
      ∙ ap (λ (x : Run). x.waiting.layout) keeps)

-- no state more

pub stopped_works : (b : ReadyBlock) (f : Cells) (s : Contents) (octets : List ℕ) (m n : ParserMachine) (q : Run) (e : ParserError) → Works b f s octets m → q ≡ stopped_by e m.run → n.parsed ≡ m.parsed → n.run ≡ q → Works b f s octets n
stopped_works b f s octets m n q e works stops same is =
    runs_on b f s octets m n works same (ap (λ (x : Run). x.waiting.layout) is ∙ ap (λ (x : Run). x.waiting.layout) stops)

pub stopped_short : (f : Cells) (s : Contents) (u : List ℕ) (r q : Run) (rows : List State) (left number : ℕ) (due : Moment) → q ≡ stopped_by PacketTooShort r → left ≡ 0 → parse_from rows left number (moment f s u r) ≡ due → moment f s u q ≡ due
stopped_short f s u r q rows left number due stops none so =
    raises f s u r q PacketTooShort stops
    ∙ ap (λ (k : ℕ). parse_from rows k number (moment f s u r)) (sym none)
    ∙ so

-- the whole run

pub ended_works : (b : ReadyBlock) (f : Cells) (s : Contents) (octets : List ℕ) (m n : ParserMachine) (slot : ℕ) (new : Cells) (q : Run) → Works b f s octets m → new ≡ ended_cells slot m.run.stopped f → q ≡ unstopped m.run → n.parsed ≡ m.parsed → n.run ≡ q → Works b new s octets n
ended_works b f s octets m n slot new q works cells is same runs =
    runs_on b new s octets m n (record {
      runnable = works.runnable;
      over =
          let over = ended_over f s (drop m.parsed octets) m.run slot new q cells is (ground_of b.code) works.over in
          record { cells = over.cells; waiting = works.over.waiting; shapes = works.over.shapes };
      within = works.within;
    }) same (ap (λ (x : Run). x.waiting.layout) (runs ∙ is))

pub runs_whole : (made : Made) (r : ReadyParser) (states : List ReadyState) (first second third last : Moment) (most : ℕ) → states ≡ r.states → second ≡ with_headers_empty r.headers first → third ≡ parser_run (statement_at made.statements r.variables) second → most ≡ (length second.unparsed + 1) * (length states + 1) → last ≡ parse_from (made_states made states) most r.first third → last ≡ run_states (made_parser made r) (with_headers_empty r.headers first)
runs_whole made r states first second third last most same empties starts count runs =
    runs
    ∙ ap (λ (k : ℕ). parse_from (made_states made states) k r.first third)
    (count ∙ ap (λ (k : ℕ). (length second.unparsed + 1) * (k + 1)) (sym (length-map states (state_of made.expressions made.statements))))
    ∙ ap (λ (rows : List ReadyState). parse_from (made_states made rows) ((length second.unparsed + 1) * (length (made_states made rows) + 1)) r.first third) same
    ∙ ap (parse_from (made_states made r.states) ((length second.unparsed + 1) * (length (made_states made r.states) + 1)) r.first) starts
    ∙ ap (run_states (made_parser made r)) empties

pub error_whole : (p : Parser) (first last : Moment) (e : ParserError) → last ≡ run_states p (with_headers_empty p.headers first) → e ≡ unwrap_or last.stopped NoError → e ≡ (ready_parse p first).error
error_whole p first last e runs is = is ∙ ap (λ (m : Moment). unwrap_or m.stopped NoError) runs

pub moment_whole : (p : Parser) (first last end : Moment) → last ≡ run_states p (with_headers_empty p.headers first) → end ≡ (parse_ended p.error last).moment → end ≡ (ready_parse p first).moment
moment_whole p first last end runs is = is ∙ ap (λ (m : Moment). (parse_ended p.error m).moment) runs
