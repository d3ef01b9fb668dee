-- From state to state: both parsers end alike.
use Rattle.std.proofs.Common.{◌≡◌, ℕ, zero, suc, cond, Option, Some, None, List, refl, sym, ap, ◌∙◌, subst}
use Rattle.std.specs.Prelude.{is_some}
use Rattle.p414_syntax.specs.declared.parsers.Parser.{Parser}
use Rattle.p414_syntax.specs.declared.syntax.Decl.{Decl}
use Rattle.p414_syntax.specs.Names.{Name}
use Rattle.p414_sem.specs.declared.parsed.Parsed.TheVariants.{Accepted, OutOfPacket}
use Rattle.p414_sem.specs.State.{State}
use Rattle.p414_sem.specs.Parsing.{Parse, Step, to, ended, steps, state_named, step_from, run_out, followed as followed14, parse_from as parse_from14}
use Rattle.p416_syntax.specs.declared.parsers.State.{State as State16}
use Rattle.p416_syntax.specs.Scopes.{Scope}
use Rattle.v1_core.specs.declared.parser_error.ParserError.TheVariants.{PacketTooShort}
use Rattle.v1_core.specs.Frames.{Moment}
use Rattle.v1_core.specs.Parsing.{Onward, to_target, in_state, from_state, state_called, followed, parse_from}
use Rattle.lower_laws_base.specs.Context.{Lowering}
use Rattle.lower_laws_parser.specs.Words.{ParserWords, next_by, next_of, state_of}
use Rattle.lower_laws_parser.specs.Parsing.{Origin, Going, Halted, parser_words, Parses, HasState, HasStates, StepStands, ParseStands}
use Rattle.lower_laws_parser.proofs.States.{state_does}

-- what a name leads to
abbrev pub entered14 : List Decl → State → Option Parser → Step
entered14 ds t None = ended Accepted t
entered14 ds t (Some x) = steps ds x t

pub step_is : (ds : List Decl) (called : Name) (t : State) (x : Option Parser) → state_named ds called ≡ x → step_from ds called t ≡ entered14 ds t x
step_is ds called t None e = rw e refl
step_is ds called t (Some x) e = rw e refl

module _ (c : Lowering) (ds : List Decl) (packet : Name) (state : Name → Name) (s : Scope) (parses : Parses c ds packet s) (here : s ≡ c.world.around.scope) (o : Origin) (states : List State16) (has : HasStates c ds (parser_words c packet state) states) where
  abbrev p : ParserWords
  p = parser_words c packet state

  -- a packet that goes on was accepted where nothing more is parsed
  accepted : (t : State) (n : Moment) → Going c o t n → Halted c o Accepted t n
  accepted t n going = record {
    moment = n;
    going = going;
    is = ap (λ (e : Option _). let m : Moment = record n { stopped = e } in m) going.stands.both.packet.runs;
  }

  leads_on : (called : Name) (x : Option Parser) → state_named ds called ≡ x → next_of ds p called ≡ next_by ds p (is_some x) called
  leads_on called x e = ap (λ (y : Option Parser). next_by ds p (is_some y) called) e

  -- the rest of the walk, with so many states left in both
  abbrev Rests : ℕ → Type 0
  Rests bound =
      (called : Name) (t : State) (n : Moment) → Going c o t n →
      ParseStands c o (parse_from14 ds bound called t) (followed (parse_from c.world states bound) (to_target (next_of ds p called) n))

  behind : (bound : ℕ) → Rests bound → (step : Step) (x : Onward) → StepStands c ds p o step x → ParseStands c o (followed14 (parse_from14 ds bound) step) (followed (parse_from c.world states bound) x)
  behind bound rest (to next u) x there =
      subst (λ z. ParseStands c o (parse_from14 ds bound next u) (followed (parse_from c.world states bound) z)) (sym there.1)
      (rest next u there.0 there.2)
  behind bound rest (ended end u) x there = subst (λ z. Halted c o end u (followed (parse_from c.world states bound) z)) (sym there.1) there.2

  -- no state may run: what is no state accepts, and else the packet counts as too short
  none_left : Rests 0
  none_left called t n going = by (state_named ds called) refl where
    by : (x : Option Parser) → state_named ds called ≡ x → ParseStands c o (parse_from14 ds 0 called t) (followed (parse_from c.world states 0) (to_target (next_of ds p called) n))
    by None e =
        subst (λ (x : Option Parser). ParseStands c o (let y : Parse = record { end = run_out x; state = t } in y) (followed (parse_from c.world states 0) (to_target (next_of ds p called) n))) (sym e)
        (subst (λ z. Halted c o Accepted t (followed (parse_from c.world states 0) (to_target z n))) (sym (leads_on called None e)) (accepted t n going))
    by (Some x) e =
        subst (λ (x : Option Parser). ParseStands c o (let y : Parse = record { end = run_out x; state = t } in y) (followed (parse_from c.world states 0) (to_target (next_of ds p called) n))) (sym e)
        (subst (λ z. Halted c o OutOfPacket t (followed (parse_from c.world states 0) (to_target z n))) (sym (leads_on called (Some x) e))
        (record { moment = n; going = going; is = ap (λ b. let m : Moment = cond b n (record n { stopped = Some PacketTooShort }) in m) (ap is_some going.stands.both.packet.runs) }))

  one_more : (bound : ℕ) → Rests bound → (called : Name) (t : State) (n : Moment) → Going c o t n → (x : Option Parser) → state_named ds called ≡ x → HasState c ds p states called x → ParseStands c o (followed14 (parse_from14 ds bound) (step_from ds called t)) (followed (parse_from c.world states (suc bound)) (to_target (next_of ds p called) n))
  one_more bound rest called t n going None e there =
      subst (λ z. ParseStands c o (followed14 (parse_from14 ds bound) z) (followed (parse_from c.world states (suc bound)) (to_target (next_of ds p called) n))) (sym (step_is ds called t None e))
      (subst (λ z. Halted c o Accepted t (followed (parse_from c.world states (suc bound)) (to_target z n))) (sym (leads_on called None e)) (accepted t n going))
  one_more bound rest called t n going (Some x) e there =
      let goes : followed (parse_from c.world states (suc bound)) (to_target (next_of ds p called) n) ≡ followed (parse_from c.world states bound) (in_state c.world (state_of ds p x) n) =
      ap (λ z. followed (parse_from c.world states (suc bound)) (to_target z n)) (leads_on called (Some x) e)
      ∙ ap (λ b. cond b n (followed (parse_from c.world states bound) (from_state c.world (state_called states (p.state called)) n))) (ap is_some going.stands.both.packet.runs)
      ∙ ap (λ (y : Option State16). followed (parse_from c.world states bound) (from_state c.world y n)) there.0 in
      subst (ParseStands c o (followed14 (parse_from14 ds bound) (step_from ds called t))) (sym goes)
      (subst (λ z. ParseStands c o (followed14 (parse_from14 ds bound) z) (followed (parse_from c.world states bound) (in_state c.world (state_of ds p x) n))) (sym (step_is ds called t (Some x) e))
      (behind bound rest (steps ds x t) (in_state c.world (state_of ds p x) n) (state_does c ds packet state s parses o here x there.1 t n going)))

  -- with equal bounds both end alike
  pub walks : (bound : ℕ) → Rests bound
  walks zero called t n going = none_left called t n going
  walks (suc bound) called t n going = one_more bound (walks bound) called t n going (state_named ds called) refl (has called)
