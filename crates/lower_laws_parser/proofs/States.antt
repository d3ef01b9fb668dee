-- A state of the parser as a whole.
use Rattle.std.proofs.Common.{◌≡◌, ℕ, Bool, true, false, cond, Option, Some, None, List, [], ◌∷◌, fold, sum, map, refl, sym, ap, ap₂, ◌∙◌, subst}
use Rattle.std.specs.Prelude.{is_some, option_map}
use Rattle.p414_syntax.specs.declared.parts.Inst.{Inst}
use Rattle.p414_syntax.specs.declared.parsers.PStmt.{PStmt}
use Rattle.p414_syntax.specs.declared.parsers.PStmt.TheVariants as pstmt
use Rattle.p414_syntax.specs.declared.parsers.PValue.{PValue}
use Rattle.p414_syntax.specs.declared.parsers.CaseTarget.{CaseTarget}
use Rattle.p414_syntax.specs.declared.parsers.CaseTarget.TheVariants as case_target
use Rattle.p414_syntax.specs.declared.parsers.Case.{Case}
use Rattle.p414_syntax.specs.declared.parsers.Return.{Return}
use Rattle.p414_syntax.specs.declared.parsers.Return.TheVariants as end_of
use Rattle.p414_syntax.specs.declared.parsers.Parser.{Parser}
use Rattle.p414_syntax.specs.declared.syntax.Decl.{Decl}
use Rattle.p414_syntax.specs.Names.{Name}
use Rattle.p414_syntax.specs.Selects.{value_bits}
use Rattle.p414_syntax.specs.Uses.{last_behind, last_of}
use Rattle.p414_sem.specs.declared.parsed.Parsed.{Parsed}
use Rattle.p414_sem.specs.State.{State}
use Rattle.p414_sem.specs.Parsing.{Latest, Progress, goes_on, stops, does, does_next, leads as leads14, selects, returns, steps, key_of, key_width, matches_case, target_of_key}
use Rattle.p416_syntax.specs.declared.parsers.Target.{Target}
use Rattle.p416_syntax.specs.Tree.{Exp16, Stmt16, no_statements, then}
use Rattle.p416_syntax.specs.Kinds.{Kind}
use Rattle.p416_syntax.specs.Scopes.{Scope}
use Rattle.p416_syntax.specs.Calls.{select_key}
use Rattle.p416_syntax.specs.Expressions.{kind_of}
use Rattle.p416_syntax.specs.Statements.{behind}
use Rattle.v1_core.specs.declared.parser_error.ParserError.TheVariants.{NoMatch}
use Rattle.v1_core.specs.Values.{no_members}
use Rattle.v1_core.specs.Frames.{Moment, ticked, is_stopped, raised, with_inner}
use Rattle.v1_core.specs.Expressions.{Valued, value_of}
use Rattle.v1_core.specs.Statements.{no_label, run}
use Rattle.v1_core.specs.Parsing.{Keys, keys_from, first_match, finished, to_found, selected, leads, passed, in_state}
use Rattle.agreement_of_meanings.specs.Agrees.{stop_of}
use Rattle.agreement_of_meanings.specs.Lowered.{target16, select_cases, IsState, LeadToStates}
use Rattle.agreement_of_meanings.proofs.Selected.{lone, cases_match}
use Rattle.lower_laws_base.specs.Context.{Lowering}
use Rattle.lower_laws_parser.specs.Words.{ParserWords, stmt_of, body_of, key_exp, width_of_key, next_of, transition_of, state_of}
use Rattle.lower_laws_parser.specs.Parsing.{Origin, Going, Halted, StmtFits, BodyFits, EndFits, StateFits, IsLatest, IsStop, parser_words, Parses, ProgressStands, StepStands}
use Rattle.lower_laws_parser.proofs.Extracts.{going_ticked, extract_does}
use Rattle.lower_laws_parser.proofs.Sets.{set_does}
use Rattle.lower_laws_parser.proofs.Yields.{too_short, Yields}
use Rattle.lower_laws_parser.proofs.Keys.{latest_same, yields_key}

-- what is found leads to a state
abbrev FindsState : Option CaseTarget → Type 0
FindsState None = Unit {0}
FindsState (Some t) = IsState t

finds_state : (width key : ℕ) (cases : List Case) → LeadToStates cases → FindsState (target_of_key width key cases)
finds_state width key [] states = tt
finds_state width key (c ∷ cases) states = by (matches_case width key c) (finds_state width key cases states.1) where
  by : (b : Bool) → FindsState (target_of_key width key cases) → FindsState (cond b (Some c.target) (target_of_key width key cases))
  by true rest = states.0
  by false rest = rest

-- what stopped stays
stopped_there : (m : Moment) (end : Parsed) → IsStop end → is_stopped (record m { stopped = stop_of end }) ≡ true
stopped_there m end is = is

module _ (c : Lowering) (ds : List Decl) (packet : Name) (state : Name → Name) (s : Scope) (parses : Parses c ds packet s) (o : Origin) where
  abbrev p : ParserWords
  p = parser_words c packet state

  -- one statement
  stmt_does : (last : Option Inst) (latest : Option Latest) (t : State) (n : Moment) → Going c o t n → IsLatest c ds t last latest → (q : PStmt) → StmtFits c ds last q → ProgressStands c ds o (last_behind last q) (does ds q latest t) (run c.world s no_label (stmt_of ds p last q) n)
  stmt_does last latest t n going is (pstmt.Extract i) fits = extract_does c ds packet state s parses o t n going i fits
  stmt_does last latest t n going is (pstmt.SetMetadata r v) fits = set_does c ds packet state s parses o t n going last latest is r v fits.0 fits.1 fits.2

  stmt_stays : (last : Option Inst) (q : PStmt) (n : Moment) → is_stopped n ≡ true → run c.world s no_label (stmt_of ds p last q) n ≡ n
  stmt_stays last (pstmt.Extract i) n is = rw is refl
  stmt_stays last (pstmt.SetMetadata r v) n is = rw is refl

  stmt_behind : (last : Option Inst) (q : PStmt) → behind (stmt_of ds p last q) s ≡ s
  stmt_behind last (pstmt.Extract i) = refl
  stmt_behind last (pstmt.SetMetadata r v) = refl

  next_does : (last : Option Inst) (progress : Progress) (n : Moment) → ProgressStands c ds o last progress n → (q : PStmt) → StmtFits c ds last q → ProgressStands c ds o (last_behind last q) (does_next ds progress q) (run c.world s no_label (stmt_of ds p last q) n)
  next_does last (goes_on latest t) n there q fits = stmt_does last latest t n there.0 there.1 q fits
  next_does last (stops end t) n there q fits =
      let halted = there.1 in
      let is : is_stopped n ≡ true = ap is_stopped halted.is ∙ there.0 in
      (there.0, subst (Halted c o end t) (sym (stmt_stays last q n is)) halted)

  record Done (last : Option Inst) (progress : Progress) (x : Stmt16) (n : Moment) : Type 0 where
    stays : behind x s ≡ s
    stands : ProgressStands c ds o last progress (run c.world s no_label x n)

  body_does : (qs : List PStmt) (last : Option Inst) (progress : Progress) (x : Stmt16) (n : Moment) → BodyFits c ds last qs → Done last progress x n → Done (last_of last qs) (fold (does_next ds) progress qs) (body_of ds p last x qs) n
  body_does [] last progress x n fits done = done
  body_does (q ∷ qs) last progress x n fits done =
      body_does qs (last_behind last q) (does_next ds progress q) ((then) x (stmt_of ds p last q)) n fits.1
      (record {
        stays = ap (behind (stmt_of ds p last q)) done.stays ∙ stmt_behind last q;
        stands = subst (λ z. ProgressStands c ds o (last_behind last q) (does_next ds progress q) (run c.world z no_label (stmt_of ds p last q) (run c.world s no_label x n))) (sym done.stays)
            (next_does last progress (run c.world s no_label x n) done.stands q fits.0);
      })

  -- selects

  -- the key is there, or the packet is too short
  abbrev lone_keys : ℕ → ℕ → Moment → Keys
  lone_keys width key n = record { keys = lone width key; moment = n }

  leads_found : (t : State) (n : Moment) → Going c o t n → (found : Option CaseTarget) → FindsState found → StepStands c ds p o (leads14 t found) (to_found (option_map (target16 (next_of ds p)) found) n)
  leads_found t n going None is = (
    raised NoMatch n,
    refl,
    record {
      moment = n;
      going = going;
      is = ap (λ b. let m : Moment = cond b n (record n { stopped = Some NoMatch }) in m) (ap is_some going.stands.both.packet.runs);
    },
  )
  leads_found t n going (Some (case_target.State called)) is = (n, refl, going)
  leads_found t n going (Some (case_target.ParseError called)) is = absurd is

  select_does : (t : State) (n : Moment) → Going c o t n → (e : Exp16) (width : ℕ) (cases : List Case) → LeadToStates cases → (key : Option ℕ) → Yields c.world s n e width key → StepStands c ds p o (selects width cases t key) (selected (select_cases width (next_of ds p) cases) (keys_from c.world s (e ∷ []) n))
  select_does t n going e width cases states (Some key) yields =
      let keys : keys_from c.world s (e ∷ []) n ≡ lone_keys width key n = ap₂ (λ (k : Kind) (x : Valued). let y : Keys = record { keys = record { kind = k; value = x.value } ∷ []; moment = x.moment } in y) yields.kind (yields.value.0 select_key) in
      let there : selected (select_cases width (next_of ds p) cases) (keys_from c.world s (e ∷ []) n) ≡ to_found (option_map (target16 (next_of ds p)) (target_of_key width key cases)) n =
      ap (selected (select_cases width (next_of ds p) cases)) keys
      ∙ ap (λ b. cond b (finished n) (to_found (first_match (lone width key) (select_cases width (next_of ds p) cases)) n)) (ap is_some going.stands.both.packet.runs)
      ∙ ap (λ (f : Option Target). to_found f n) (cases_match width key (next_of ds p) cases yields.value.1) in
      subst (StepStands c ds p o (leads14 t (target_of_key width key cases))) (sym there)
      (leads_found t n going (target_of_key width key cases) (finds_state width key cases states))
  select_does t n going e width cases states None yields = (
    too_short n,
    ap (λ (m : Moment). let x : Keys = record { keys = record { kind = kind_of s e; value = (value_of c.world s select_key e n).value } ∷ []; moment = m } in selected (select_cases width (next_of ds p) cases) x) (yields.value select_key),
    record { moment = n; going = going; is = refl },
  )

  width_same : (last : Option Inst) (latest : Option Latest) (t : State) (vs : List PValue) → IsLatest c ds t last latest → key_width ds latest vs ≡ width_of_key ds p last vs
  width_same last latest t vs is = ap (λ (l : Option Inst). sum (map (value_bits ds l) vs)) (latest_same c ds t last latest is)

  return_does : (last : Option Inst) (latest : Option Latest) (t : State) (n : Moment) → Going c o t n → IsLatest c ds t last latest → (end : Return) → EndFits c ds p last end → StepStands c ds p o (returns ds end (goes_on latest t)) (leads c.world s (transition_of ds p last end) n)
  return_does last latest t n going is (end_of.State called) fits = (n, refl, going)
  return_does last latest t n going is (end_of.ParseError called) fits = absurd fits
  return_does last latest t n going is (end_of.Select vs cases) fits =
      subst (λ w. StepStands c ds p o (selects w cases t (key_of ds latest t vs)) (leads c.world s (transition_of ds p last (end_of.Select vs cases)) n)) (sym (width_same last latest t vs is))
      (select_does t n going (key_exp ds p last vs) (width_of_key ds p last vs) cases fits.3 (key_of ds latest t vs)
      (yields_key c ds packet state s parses o t n going last latest is vs fits.0 fits.1 fits.2))

  -- how a state ends, once its statements are done
  ends_by : (last : Option Inst) (progress : Progress) (n : Moment) → ProgressStands c ds o last progress n → (end : Return) → EndFits c ds p last end → StepStands c ds p o (returns ds end progress) (passed c.world s (transition_of ds p last end) n)
  ends_by last (stops parsed t) n there end fits =
      let is : is_stopped n ≡ true = ap is_stopped there.1.is ∙ there.0 in
      (n, ap (λ b. cond b (finished n) (leads c.world s (transition_of ds p last end) (ticked n))) is, there.1)
  ends_by last (goes_on latest t) n there end fits =
      let runs : is_stopped n ≡ false = ap is_some there.0.stands.both.packet.runs in
      subst (StepStands c ds p o (returns ds end (goes_on latest t))) (ap (λ b. cond b (finished n) (leads c.world s (transition_of ds p last end) (ticked n))) (sym runs))
      (return_does last latest t (ticked n) (going_ticked c o t n there.0) there.1 end fits)

  pub inner_same : (n : Moment) → n.frame.inner ≡ no_members → with_inner no_members n ≡ n
  inner_same n is = ap (λ v. with_inner v n) (sym is)

  pub state_does : s ≡ c.world.around.scope → (x : Parser) → StateFits c ds p x → (t : State) (n : Moment) → Going c o t n → StepStands c ds p o (steps ds x t) (in_state c.world (state_of ds p x) n)
  state_does here x fits t n going =
      let body = body_of ds p None no_statements x.statements in
      let end = transition_of ds p (last_of None x.statements) x.end in
      let done = body_does x.statements None (goes_on None t) no_statements n fits.body (record { stays = refl; stands = (going, tt) }) in
      let there = ends_by (last_of None x.statements) (fold (does_next ds) (goes_on None t) x.statements) (run c.world s no_label body n) done.stands x.end fits.end in
      subst (λ m. StepStands c ds p o (steps ds x t) (passed c.world (behind body c.world.around.scope) end (run c.world c.world.around.scope no_label body m))) (sym (inner_same n going.stands.inner))
      (subst (λ z. StepStands c ds p o (steps ds x t) (passed c.world (behind body z) end (run c.world z no_label body n))) here
      (subst (λ z. StepStands c ds p o (steps ds x t) (passed c.world z end (run c.world s no_label body n))) (sym done.stays) there))
