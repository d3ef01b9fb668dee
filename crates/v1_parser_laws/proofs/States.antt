-- The states of a ready parser do what those of the program do.
use Rattle.std.proofs.Common.{◌≡◌, ◌⊎◌, inl, inr, ℕ, zero, suc, ◌+◌, ◌%◌, ◌^◌, Bool, true, false, cond, List, [], ◌∷◌, is_some, Option, Some, None, IfSome, slice_get, refl, sym, ap, ◌∙◌, subst}
use Rattle.p416_syntax.specs.declared.program.Syntax16.{Syntax16}
use Rattle.p416_syntax.specs.declared.parsers.State.{State}
use Rattle.p416_syntax.specs.declared.parsers.Target.{Target}
use Rattle.p416_syntax.specs.declared.parsers.Target.TheVariants as target
use Rattle.p416_syntax.specs.Names.{Name}
use Rattle.p416_syntax.specs.Statements.{behind}
use Rattle.p416_syntax.specs.Breaks.{BreaksNone, program_rules}
use Rattle.v1_core.specs.declared.parser_error.ParserError.{ParserError}
use Rattle.v1_core.specs.declared.parser_error.ParserError.TheVariants.{PacketTooShort}
use Rattle.v1_core.specs.Values.{no_members}
use Rattle.v1_core.specs.Frames as sem
use Rattle.v1_core.specs.Surroundings.{World}
use Rattle.v1_core.specs.Numbered.{Variable, InScope}
use Rattle.v1_core.specs.Statements.{no_label, run}
use Rattle.v1_core.specs.Parsing as parsing
use Rattle.v1_ready_laws.specs.Asked.{stopped_by}
use Rattle.v1_ready_selects.specs.declared.rows.Led.{Led}
use Rattle.v1_ready_selects.specs.declared.rows.Led.TheVariants.{To, Failed}
use Rattle.v1_ready_selects.specs.Selects.{Transition, lead}
use Rattle.v1_ready_selects.specs.Rows.{number_of_state, next_for}
use Rattle.v1_ready_selects.specs.Matching.{state_names}
use Rattle.v1_ready_selects.proofs.Matching.{states_told}
use Rattle.v1_ready_blocks.specs.Moments as blocks
use Rattle.v1_ready_blocks.specs.Blocks.{parser_run}
use Rattle.v1_ready_states.specs.States as ready
use Rattle.v1_parser_laws.specs.Leading.{LeadAlike}
use Rattle.v1_parser_laws.specs.Shown.{Shows, in_block, ShowsIn, BodyShows, OnwardShows, both_go_on, both_end}
use Rattle.v1_parser_laws.specs.States.{StateShows, StatesShow, StateIsMade}
use Rattle.v1_parser_laws.specs.Laws.{MadeStatesShow, ParsingShows}
use Rattle.v1_parser_laws.proofs.Transitions.{transitions_lead}

-- moments that are one stay so

no_inner : (syntax : Syntax16) (vars inner : List Variable) (m : sem.Moment) (n : blocks.Moment) → Shows syntax (in_block vars inner) m n → Shows syntax (in_block vars []) (sem.with_inner no_members m) n
no_inner syntax vars inner m n h = record {
  frame = ap (λ (f : sem.Frame). record f { inner = no_members }) h.frame;
  whole = h.whole;
  store = h.store;
  unparsed = h.unparsed;
  emitted = h.emitted;
  work = h.work;
  stopped = h.stopped;
  hit = h.hit;
}

pub ticked_shows : (syntax : Syntax16) (who : InScope) (m : sem.Moment) (n : blocks.Moment) → Shows syntax who m n → Shows syntax who (sem.ticked m) (blocks.ticked n)
ticked_shows syntax who m n h = record {
  frame = h.frame;
  whole = h.whole;
  store = h.store;
  unparsed = h.unparsed;
  emitted = h.emitted;
  work = ap (λ (k : ℕ). (k + 1) % 2 ^ 64) h.work;
  stopped = h.stopped;
  hit = h.hit;
}

pub stopped_shows : (syntax : Syntax16) (who : InScope) (e : ParserError) (m : sem.Moment) (n : blocks.Moment) → Shows syntax who m n → Shows syntax who (stopped_by e m) (record n { stopped = Some e })
stopped_shows syntax who e m n h = record {
  frame = h.frame;
  whole = h.whole;
  store = h.store;
  unparsed = h.unparsed;
  emitted = h.emitted;
  work = h.work;
  stopped = refl;
  hit = h.hit;
}

raised_by : (syntax : Syntax16) (who : InScope) (e : ParserError) (m : sem.Moment) (n : blocks.Moment) (b : Bool) → Shows syntax who m n → Shows syntax who (cond b m (record m { stopped = Some e })) (cond b n (record n { stopped = Some e }))
raised_by syntax who e m n true h = h
raised_by syntax who e m n false h = stopped_shows syntax who e m n h

pub raised_shows : (syntax : Syntax16) (who : InScope) (e : ParserError) (m : sem.Moment) (n : blocks.Moment) → Shows syntax who m n → Shows syntax who (sem.raised e m) (blocks.raised e n)
raised_shows syntax who e m n h =
    subst (λ (o : Option ParserError). Shows syntax who (sem.raised e m) (cond (is_some o) n (record n { stopped = Some e }))) h.stopped
    (raised_by syntax who e m n (is_some m.stopped) h)

none_of : (o : Option ParserError) → is_some o ≡ false → o ≡ None
none_of None is = refl
none_of (Some e) is = absurd (cc is)

-- transitions

module _ (syntax : Syntax16) (vars : List Variable) (names : List Name) where
  abbrev Both : parsing.Onward → ready.Onward → Type 0
  Both x y = OnwardShows syntax vars names x y

  to_targets : (t : Target) (m : sem.Moment) (n : blocks.Moment) → ShowsIn syntax vars m n → Both (parsing.to_target t m) (ready.to_next (next_for names t) n)
  to_targets (target.State text) m n h = both_go_on text m n h
  to_targets target.Accept m n h = both_end m n h
  to_targets target.Reject m n h = both_end m n h

  -- the same leads to the same, behind the count
  lead_by : (inner : List Variable) (x : parsing.Onward) (led : Led) (m : sem.Moment) (n : blocks.Moment) → Shows syntax (in_block vars inner) m n → m.stopped ≡ None → LeadAlike names x led m → Both x (ready.to_led led n)
  lead_by inner x led m n h runs (inl a) =
      subst (λ (y : Led). Both x (ready.to_led y n)) (sym a.2)
      (subst (λ (z : parsing.Onward). Both z (ready.to_next (next_for names a.0) n)) (sym a.1) (to_targets a.0 m n (inner, h)))
  lead_by inner x led m n h runs (inr a) =
      subst (λ (y : Led). Both x (ready.to_led y n)) (sym a.2)
      (subst (λ (z : parsing.Onward). Both z (ready.finished (blocks.raised a.0 n))) (sym a.1)
      (both_end (stopped_by a.0 m) (blocks.raised a.0 n) (inner, raises)))
    where
      raises : Shows syntax (in_block vars inner) (stopped_by a.0 m) (blocks.raised a.0 n)
      raises =
          subst (λ (z : sem.Moment). Shows syntax (in_block vars inner) z (blocks.raised a.0 n))
          (ap (λ (o : Option ParserError). cond (is_some o) m (stopped_by a.0 m)) runs) (raised_shows syntax (in_block vars inner) a.0 m n h)

-- states

if_some : (P : Transition → Type 0) (o : Option Transition) (t : Transition) → o ≡ Some t → IfSome o P → P t
if_some P o t is h = subst (λ (q : Option Transition). IfSome q P) is h

passed_by : (syntax : Syntax16) (w : World) (vars : List Variable) (names : List Name) (x : State) (r : ready.State) (made : StateIsMade syntax w vars names x r) (m : sem.Moment) (n : blocks.Moment) (b : Bool) → BreaksNone syntax program_rules → BodyShows syntax vars made.inner m n → is_some m.stopped ≡ b
    → OnwardShows syntax vars names (cond b (parsing.finished m) (parsing.leads w (behind x.body w.around.scope) x.transition (sem.ticked m))) (cond b (ready.finished n) (ready.to_led (lead n.cells n.unparsed r.transition) (blocks.ticked n)))
passed_by syntax w vars names x r made m n true accepted shown is = both_end m n shown.0
passed_by syntax w vars names x r made m n false accepted shown is =
    let runs = none_of m.stopped is in
    let h : Shows syntax (in_block vars made.inner) m n = shown.1 runs in
    lead_by syntax vars names made.inner _ _ (sem.ticked m) (blocks.ticked n) (ticked_shows syntax (in_block vars made.inner) m n h) runs
    (subst (λ (left : List ℕ). LeadAlike names (parsing.leads w (behind x.body w.around.scope) x.transition (sem.ticked m)) (lead n.cells left r.transition) (sem.ticked m)) h.unparsed
    (if_some (λ (t : Transition). LeadAlike names (parsing.leads w (behind x.body w.around.scope) x.transition (sem.ticked m)) (lead n.cells m.unparsed t) (sem.ticked m)) _ r.transition made.transition
    (transitions_lead syntax n.cells w (behind x.body w.around.scope) (in_block vars made.inner) (sem.ticked m) names x.transition accepted h.whole made.layouts h.frame runs made.seated made.keeps)))

pub made_states_show : MadeStatesShow
made_states_show syntax w vars names x r accepted made m n (inner, h) =
    let start = no_inner syntax vars inner m n h in
    let ran = run w w.around.scope no_label x.body (sem.with_inner no_members m) in
    let done = parser_run r.body n in
    let shown : BodyShows syntax vars made.inner ran done = made.body (sem.with_inner no_members m) n start in
    subst (λ (o : Option ParserError). OnwardShows syntax vars names (parsing.passed w (behind x.body w.around.scope) x.transition ran) (cond (is_some o) (ready.finished done) (ready.to_led (lead done.cells done.unparsed r.transition) (blocks.ticked done)))) shown.0.1.stopped
    (passed_by syntax w vars names x r made ran done (is_some ran.stopped) accepted shown refl)

-- the state with a name, and that with its number

abbrev OptionShows : Syntax16 → World → List Variable → List Name → Option State → Option ready.State → Type 0
OptionShows syntax w vars names None None = Unit {0}
OptionShows syntax w vars names (Some x) (Some r) = StateShows syntax w vars names x r
OptionShows syntax w vars names _ _ = ⊥

at_number : (syntax : Syntax16) (w : World) (vars : List Variable) (names : List Name) (states : List State) (rows : List ready.State) → StatesShow syntax w vars names states rows → (number : ℕ) → OptionShows syntax w vars names (slice_get states number) (slice_get rows number)
at_number syntax w vars names [] [] h number = tt
at_number syntax w vars names [] (r ∷ rows) h number = absurd h
at_number syntax w vars names (x ∷ states) [] h number = absurd h
at_number syntax w vars names (x ∷ states) (r ∷ rows) h zero = h.0
at_number syntax w vars names (x ∷ states) (r ∷ rows) h (suc number) = at_number syntax w vars names states rows h.1 number

from_option : (syntax : Syntax16) (w : World) (vars : List Variable) (names : List Name) (o : Option State) (q : Option ready.State) (m : sem.Moment) (n : blocks.Moment) → OptionShows syntax w vars names o q → ShowsIn syntax vars m n → OnwardShows syntax vars names (parsing.from_state w o m) (ready.from_state q n)
from_option syntax w vars names None None m n h shown = both_end m n shown
from_option syntax w vars names None (Some r) m n h shown = absurd h
from_option syntax w vars names (Some x) None m n h shown = absurd h
from_option syntax w vars names (Some x) (Some r) m n h shown = h m n shown

-- parsing

module _ (syntax : Syntax16) (w : World) (vars : List Variable) (states : List State) (rows : List ready.State) (all : StatesShow syntax w vars (state_names states) states rows) where
  abbrev number : Name → ℕ
  number text = number_of_state (state_names states) text

  from_name : (text : Name) (m : sem.Moment) (n : blocks.Moment) → ShowsIn syntax vars m n → OnwardShows syntax vars (state_names states) (parsing.from_state w (parsing.state_called states text) m) (ready.from_state (slice_get rows (number text)) n)
  from_name text m n shown =
      subst (λ (o : Option State). OnwardShows syntax vars (state_names states) (parsing.from_state w o m) (ready.from_state (slice_get rows (number text)) n)) (states_told states text)
      (from_option syntax w vars (state_names states) (slice_get states (number text)) (slice_get rows (number text)) m n (at_number syntax w vars (state_names states) states rows all (number text)) shown)

  followed : (left : ℕ) → ((text : Name) (m : sem.Moment) (n : blocks.Moment) → ShowsIn syntax vars m n → ShowsIn syntax vars (parsing.parse_from w states left text m) (ready.parse_from rows left (number text) n)) → (x : parsing.Onward) (y : ready.Onward) → OnwardShows syntax vars (state_names states) x y → ShowsIn syntax vars (parsing.followed (parsing.parse_from w states left) x) (ready.followed (ready.parse_from rows left) y)
  followed left parse _ _ (both_go_on text m n shown) = parse text m n shown
  followed left parse _ _ (both_end m n shown) = shown

  parse_by : (left : ℕ) (text : Name) (m : sem.Moment) (n : blocks.Moment) (b : Bool) → ShowsIn syntax vars m n → ShowsIn syntax vars (parsing.followed (parsing.parse_from w states left) (parsing.from_state w (parsing.state_called states text) m)) (ready.followed (ready.parse_from rows left) (ready.from_state (slice_get rows (number text)) n))
      → ShowsIn syntax vars (cond b m (parsing.followed (parsing.parse_from w states left) (parsing.from_state w (parsing.state_called states text) m))) (cond b n (ready.followed (ready.parse_from rows left) (ready.from_state (slice_get rows (number text)) n)))
  parse_by left text m n true shown further = shown
  parse_by left text m n false shown further = further

  pub parses : (left : ℕ) (text : Name) (m : sem.Moment) (n : blocks.Moment) → ShowsIn syntax vars m n → ShowsIn syntax vars (parsing.parse_from w states left text m) (ready.parse_from rows left (number text) n)
  parses zero text m n (inner, h) = (inner, raised_shows syntax (in_block vars inner) PacketTooShort m n h)
  parses (suc left) text m n (inner, h) =
      subst (λ (o : Option ParserError). ShowsIn syntax vars (parsing.parse_from w states (suc left) text m) (cond (is_some o) n (ready.followed (ready.parse_from rows left) (ready.from_state (slice_get rows (number text)) n)))) h.stopped
      (parse_by left text m n (is_some m.stopped) (inner, h)
      (followed left (parses left) _ _ (from_name text m n (inner, h))))

pub parsing_shows : ParsingShows
parsing_shows syntax w vars states rows left text m n all shown = parses syntax w vars states rows all left text m n shown
