-- Ready transitions lead where those of the program do.
use Rattle.std.proofs.Common.{◌≡◌, ◌⊎◌, inl, inr, Bool, cond, List, [], ◌∷◌, map, is_some, Option, Some, None, IfSome, option_map, refl, sym, ap, ◌∙◌, subst}
use Rattle.p416_syntax.specs.declared.parsers.Target.{Target}
use Rattle.p416_syntax.specs.declared.parsers.SelectCase.{SelectCase}
use Rattle.p416_syntax.specs.declared.parsers.Transition.TheVariants as transition
use Rattle.p416_syntax.specs.declared.program.Syntax16.{Syntax16}
use Rattle.p416_syntax.specs.Tree.{Exp16}
use Rattle.p416_syntax.specs.Names.{Name}
use Rattle.p416_syntax.specs.Kinds.{Kind}
use Rattle.p416_syntax.specs.Scopes.{Scope}
use Rattle.p416_syntax.specs.Calls.{select_key}
use Rattle.p416_syntax.specs.Declarations.{layouts_of}
use Rattle.p416_syntax.specs.Breaks.{BreaksNone, program_rules}
use Rattle.p416_syntax.specs.Expressions.{kind_of}
use Rattle.v1_core.specs.declared.parser_error.ParserError.{ParserError}
use Rattle.v1_core.specs.declared.parser_error.ParserError.TheVariants.{NoMatch}
use Rattle.v1_core.specs.Frames.{Moment, raised}
use Rattle.v1_core.specs.Surroundings.{World}
use Rattle.v1_core.specs.Expressions.{Valued, value_of}
use Rattle.v1_core.specs.Numbered.{InScope, frame_in}
use Rattle.v1_core.specs.Parsing as sem
use Rattle.v1_core.specs.Parsing.{Key, Onward, finished, to_target, to_found, first_match, keys_from, selected, leads}
use Rattle.v1_core.specs.Cells.{Cells}
use Rattle.v1_core.specs.Programs.{numbered16}
use Rattle.v1_core.specs.PackedFrames.{IsFrameOf}
use Rattle.v1_core.specs.Ready.{Ready, Ended, given, failed, ready_value}
use Rattle.v1_ready_forms.specs.Named.{NamedSeat, seats_in}
use Rattle.v1_ready_forms.specs.Ways.{its_value}
use Rattle.v1_ready_forms.specs.Expressions.{ready_of_exp}
use Rattle.v1_ready_laws.specs.Asked.{stopped_by, Gives}
use Rattle.v1_ready_laws.specs.Kinds.{TypesSized}
use Rattle.v1_ready_laws.specs.Rules.{AppliesNone, Keeps, NamesSeated}
use Rattle.v1_ready_laws.proofs.Given.{Holds}
use Rattle.v1_ready_laws.proofs.Expressions.{expression_runs}
use Rattle.v1_ready_laws.proofs.Named.{names_give}
use Rattle.v1_ready_laws.proofs.Typed.{operands_fit}
use Rattle.v1_ready_laws.proofs.Rules.{operands_of_kinds}
use Rattle.v1_ready_laws.proofs.Scoped.{names_are_of}
use Rattle.v1_ready_laws.proofs.Accepted.{accepted_narrow}
use Rattle.v1_ready_laws.proofs.Judged.{where_some, applies_none}
use Rattle.v1_ready_selects.specs.declared.rows.Led.{Led}
use Rattle.v1_ready_selects.specs.declared.rows.Led.TheVariants.{To, Failed}
use Rattle.v1_ready_selects.specs.Selects.{Keys, all_given, one_failed, with_key, keys_of, row_for, led_by, lead}
use Rattle.v1_ready_selects.specs.Rows.{next_for, rows_of_cases}
use Rattle.v1_ready_selects.specs.Transitions.{with_first, keys_ready, with_rows}
use Rattle.v1_ready_selects.specs.Matching.{key_kinds, key_values, led_to}
use Rattle.v1_ready_selects.proofs.Matching.{rows_lead}
use Rattle.v1_block_laws.specs.Keeping.{Each}
use Rattle.v1_parser_laws.specs.Leading.{LeadAlike}
use Rattle.v1_parser_laws.specs.Laws.{TransitionsLeadAlike}

-- A key that keeps the rules gives its value, or the same error; and evaluating it changes nothing once an error stopped the parser.
key_runs : (syntax : Syntax16) (c : Cells) (w : World) (s : Scope) (who : InScope) (m : Moment) (e : Exp16) → BreaksNone syntax program_rules → IsFrameOf syntax c → s.layouts ≡ layouts_of syntax.decls → m.frame ≡ frame_in who (numbered16 syntax c) → m.stopped ≡ None → NamesSeated s (seats_in syntax w.around.roots who) → Keeps s select_key e
    → IfSome (ready_of_exp s (seats_in syntax w.around.roots who) select_key e) (Holds c m its_value (value_of w s select_key e))
key_runs syntax c w s who m e accepted is types frame runs seated keeps =
    let narrow = accepted_narrow syntax accepted in
    let sized : TypesSized s.layouts = subst TypesSized (sym types) narrow.1 in
    let names = names_are_of syntax c w s who m.frame is narrow.2 types frame seated in
    let seats = seats_in syntax w.around.roots who in
    where_some (AppliesNone s e) (Holds c m its_value (value_of w s select_key e)) (ready_of_exp s seats select_key e) (applies_none s seats select_key its_value e)
    (λ none. expression_runs w s seats c m runs (names_give syntax c w s who m is narrow.0 narrow.2 types frame) select_key its_value e (operands_fit w s c m sized names select_key e (operands_of_kinds s select_key e keeps none)))

-- keys

-- Evaluating them gave the values of the ready ones, and left the moment as it was; or the same error ended both.
abbrev KeysGive : Keys → sem.Keys → Moment → Type 0
KeysGive end x m =
    ((x.moment ≡ m) × (end ≡ all_given (key_values x.keys)))
    ⊎ ((e : ParserError) × (x.moment ≡ stopped_by e m) × (end ≡ one_failed e))

record KeysRun (m : Moment) (end : Keys) (evaluate : Moment → sem.Keys) : Type 0 where
  gives : KeysGive end (evaluate m) m
  stays : (e : ParserError) → (evaluate (stopped_by e m)).moment ≡ stopped_by e m

-- one key in front of others
abbrev in_front : Kind → Valued → (Moment → sem.Keys) → sem.Keys
in_front k x rest = record { keys = record { kind = k; value = x.value } ∷ (rest x.moment).keys; moment = (rest x.moment).moment }

both_given : (k : Kind) (x : Valued) (z : Ended) (ks : Keys) (rest : Moment → sem.Keys) (m : Moment) → x.moment ≡ m → z ≡ given x.value → KeysGive ks (rest m) m → KeysGive (with_key z ks) (in_front k x rest) m
both_given k x z ks rest m moved is (inl h) =
    inl (
      ap (λ (n : Moment). (rest n).moment) moved ∙ h.0,
      ap (λ (y : Ended). with_key y ks) is ∙ ap (with_key (given x.value)) h.1
          ∙ ap (λ (n : Moment). all_given (x.value ∷ key_values (rest n).keys)) (sym moved),
    )
both_given k x z ks rest m moved is (inr h) =
    inr (
      h.0,
      ap (λ (n : Moment). (rest n).moment) moved ∙ h.1,
      ap (λ (y : Ended). with_key y ks) is ∙ ap (with_key (given x.value)) h.2,
    )

one_more : (k : Kind) (x : Valued) (z : Ended) (ks : Keys) (rest : Moment → sem.Keys) (m : Moment) → Gives z its_value x m → KeysRun m ks rest → KeysGive (with_key z ks) (in_front k x rest) m
one_more k x z ks rest m (inl h) r = both_given k x z ks rest m h.0 h.1 r.gives
one_more k x z ks rest m (inr h) r =
    inr (
      h.0,
      ap (λ (n : Moment). (rest n).moment) h.1 ∙ r.stays h.0,
      ap (λ (y : Ended). with_key y ks) h.2,
    )

module _ (w : World) (s : Scope) (seats : List NamedSeat) (c : Cells) (m : Moment) where
  abbrev RunKeys : List Exp16 → List Ready → Type 0
  RunKeys es rs = KeysRun m (keys_of c m.unparsed rs) (keys_from w s es)

  by_two : (e : Exp16) (es : List Exp16) (o : Option Ready) (l : Option (List Ready)) → IfSome o (Holds c m its_value (value_of w s select_key e)) → IfSome l (RunKeys es) → IfSome (with_first o l) (RunKeys (e ∷ es))
  by_two e es None l h k = tt
  by_two e es (Some r) None h k = tt
  by_two e es (Some r) (Some rs) h k = record {
    gives = one_more (kind_of s e) (value_of w s select_key e m) (ready_value c m.unparsed r) (keys_of c m.unparsed rs) (keys_from w s es) m h.gives k;
    stays = λ f. ap (λ (n : Moment). (keys_from w s es n).moment) (h.stays f) ∙ k.stays f;
  }

  keys_run : ((e : Exp16) → Keeps s select_key e → IfSome (ready_of_exp s seats select_key e) (Holds c m its_value (value_of w s select_key e))) → (es : List Exp16) → Each (Keeps s select_key) es → IfSome (keys_ready s seats es) (RunKeys es)
  keys_run runs [] keep = record { gives = inl (refl, refl); stays = λ f. refl }
  keys_run runs (e ∷ es) keep = by_two e es (ready_of_exp s seats select_key e) (keys_ready s seats es) (runs e keep.0) (keys_run runs es keep.1)

  kinds_are : (es : List Exp16) (n : Moment) → key_kinds (keys_from w s es n).keys ≡ map (kind_of s) es
  kinds_are [] n = refl
  kinds_are (e ∷ es) n = ap (λ (ks : List Kind). kind_of s e ∷ ks) (kinds_are es (value_of w s select_key e n).moment)

-- selects

running : (o : Option ParserError) (x y : Onward) → o ≡ None → cond (is_some o) x y ≡ y
running o x y is = ap (λ (p : Option ParserError). cond (is_some p) x y) is

stops : (m : Moment) → m.stopped ≡ None → raised NoMatch m ≡ stopped_by NoMatch m
stops m runs = ap (λ (p : Option ParserError). cond (is_some p) m (stopped_by NoMatch m)) runs

found_alike : (names : List Name) (m : Moment) (o : Option Target) → m.stopped ≡ None → LeadAlike names (to_found o m) (led_to names o) m
found_alike names m None runs = inr (NoMatch, ap finished (stops m runs), refl)
found_alike names m (Some t) runs = inl (t, refl, refl)

moved_alike : (names : List Name) (x y : Onward) (a b : Led) (m : Moment) → y ≡ x → b ≡ a → LeadAlike names x a m → LeadAlike names y b m
moved_alike names x y a b m same equal (inl h) = inl (h.0, same ∙ h.1, equal ∙ h.2)
moved_alike names x y a b m same equal (inr h) = inr (h.0, same ∙ h.1, equal ∙ h.2)

select_alike : (names : List Name) (kinds : List Kind) (cases : List SelectCase) (m : Moment) (end : Keys) (x : sem.Keys) → m.stopped ≡ None → key_kinds x.keys ≡ kinds → KeysGive end x m → LeadAlike names (selected cases x) (led_by (rows_of_cases names kinds cases) end) m
select_alike names kinds cases m end x runs are (inl h) =
    moved_alike names (to_found (first_match x.keys cases) m) (selected cases x) (led_to names (first_match x.keys cases)) (led_by (rows_of_cases names kinds cases) end) m
    (ap (λ (n : Moment). cond (is_some n.stopped) (finished n) (to_found (first_match x.keys cases) n)) h.0
    ∙ running m.stopped (finished m) (to_found (first_match x.keys cases) m) runs)
    (ap (led_by (rows_of_cases names kinds cases)) h.1
    ∙ ap (λ (ks : List Kind). row_for (rows_of_cases names ks cases) (key_values x.keys)) (sym are)
    ∙ rows_lead names x.keys cases)
    (found_alike names m (first_match x.keys cases) runs)
select_alike names kinds cases m end x runs are (inr h) =
    inr (
      h.0,
      ap (λ (n : Moment). cond (is_some n.stopped) (finished n) (to_found (first_match x.keys cases) n)) h.1,
      ap (led_by (rows_of_cases names kinds cases)) h.2,
    )

if_mapped : (P : List Ready → Type 0) (Q : Led → Type 0) (names : List Name) (kinds : List Kind) (cases : List SelectCase) (c : Cells) (m : Moment) (l : Option (List Ready)) → ((rs : List Ready) → P rs → Q (led_by (rows_of_cases names kinds cases) (keys_of c m.unparsed rs))) → IfSome l P → IfSome (option_map (with_rows (rows_of_cases names kinds cases)) l) (λ r. Q (lead c m.unparsed r))
if_mapped P Q names kinds cases c m None f h = tt
if_mapped P Q names kinds cases c m (Some rs) f h = f rs h

pub transitions_lead : TransitionsLeadAlike
transitions_lead syntax c w s who m names (transition.Go t) accepted is types frame runs seated keep = inl (t, refl, refl)
transitions_lead syntax c w s who m names (transition.Select es cases) accepted is types frame runs seated keep =
    let seats = seats_in syntax w.around.roots who in
    if_mapped (RunKeys w s seats c m es) (λ (a : Led). LeadAlike names (leads w s (transition.Select es cases) m) a m) names (map (kind_of s) es) cases c m (keys_ready s seats es)
    (λ rs k. select_alike names (map (kind_of s) es) cases m (keys_of c m.unparsed rs) (keys_from w s es m) runs (kinds_are w s seats c m es m) k.gives)
    (keys_run w s seats c m (λ e keeps. key_runs syntax c w s who m e accepted is types frame runs seated keeps) es keep)
