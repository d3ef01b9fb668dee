-- Values that are let go: of expressions, and the validity of headers; and what else headers can do, also where tables are.
use Rattle.std.proofs.Common.{◌≡◌, ℕ, Bool, true, false, cond, Option, Some, None, IfSome, List, [], length, refl, sym, ap, ◌∙◌, subst}
use Rattle.std.specs.Prelude.{option_map, option_and_then, codes}
use Rattle.std.specs.Str.{bytes_eq}
use Rattle.std.proofs.lemmas.Slice.Eq.{bytes_eq-Decides}
use Rattle.p416_syntax.specs.Tree.{Exp16, literal, truth, error, name, member, index, slice, call, lookahead, cast, unary, binary, choice, parenthesized, no_arguments, argument, listed, expression}
use Rattle.p416_syntax.specs.Names.{Name}
use Rattle.p416_syntax.specs.Kinds.{Kind, header}
use Rattle.p416_syntax.specs.Scopes.{Scope}
use Rattle.p416_syntax.specs.Calls.{Place, owner, statement}
use Rattle.p416_syntax.specs.Expressions.{kind_of}
use Rattle.p416_syntax.specs.Uses.{arguments_of}
use Rattle.p416_syntax.specs.Breaks.{BreaksNone, program_rules}
use Rattle.p416_syntax.specs.Declarations.{layouts_of}
use Rattle.v1_core.specs.Values.{Value}
use Rattle.v1_core.specs.Frames as sem
use Rattle.v1_core.specs.Frames.{Reference}
use Rattle.v1_core.specs.Slots.{variable_kinds}
use Rattle.v1_core.specs.Surroundings as meaning
use Rattle.v1_core.specs.Numbered.{InScope}
use Rattle.v1_core.specs.Expressions.{method_value, reference_of, value_of}
use Rattle.v1_core.specs.HeaderCalls.{set_valid, set_invalid, header_call}
use Rattle.v1_core.specs.Calls.{method_call, call_statement}
use Rattle.v1_core.specs.Cells.{Cells}
use Rattle.v1_core.specs.Scopes.{IsScope}
use Rattle.v1_core.specs.Ready.{Ended}
use Rattle.v1_ready_forms.specs.Named.{NamedSeat, seats_in}
use Rattle.v1_ready_forms.specs.Ways.{its_value, its_validity}
use Rattle.v1_ready_forms.specs.Expressions.{asked_ready, method_ready}
use Rattle.v1_ready_laws.specs.Rules.{Keeps, NamesSeated}
use Rattle.v1_ready_blocks.specs.declared.places.RangePlace.{RangePlace}
use Rattle.v1_ready_blocks.specs.Moments as blocks
use Rattle.v1_ready_blocks.specs.Moments.{Moment}
use Rattle.v1_ready_blocks.specs.Places.{range_at}
use Rattle.v1_ready_blocks.specs.Tests.{World, Test, test_value, with_test, with_range}
use Rattle.v1_ready_blocks.specs.Statements as ready
use Rattle.v1_ready_blocks.specs.Statements.{Deed, set_valid as mark, let_go, does, header_made}
use Rattle.v1_place_laws.specs.Places.{Meant, meant_by}
use Rattle.v1_ready_statements.specs.Around.{Around, table_found}
use Rattle.v1_ready_statements.specs.Targets.{parts_meant, range_given}
use Rattle.v1_ready_statements.specs.Tested.{applies, by_application, method_test, asked_test, ready_test}
use Rattle.v1_ready_statements.specs.Called.{header_deed, method_deed, expression_ready}
use Rattle.v1_value_laws.specs.Kinds.{Fine}
use Rattle.v1_statement_laws.specs.Behind.{Shown}
use Rattle.v1_statement_laws.specs.Leaves.{RunsAlike}
use Rattle.v1_statement_laws.proofs.Closing.{ticked_shown, running_is}
use Rattle.v1_statement_laws.proofs.Methods.{header_marked}
use Rattle.v1_call_laws.specs.Telling.{IsTold, ToldNone, IsValueOf, Tells, TestsTell}
use Rattle.v1_call_laws.proofs.Still.{plain_test}

-- the validity of a header, by its call
validity_asked : (s : Scope) (seats : List NamedSeat) (tables : Name → Option ℕ) (p : Place) (e handed : Exp16) (type word : Name) → kind_of s e ≡ header type → asked_test s seats tables p its_value (call (member e word) handed) ≡ asked_test s seats tables owner its_validity e
validity_asked s seats tables p e handed type word kind =
    ap (λ (k : Kind). by_application (applies s e) (method_ready k its_value (λ further. asked_ready s seats owner further e)) (method_test k its_value (λ further. asked_test s seats tables owner further e))) kind
    ∙ by (applies s e) refl where
      by : (t : Bool) → applies s e ≡ t → by_application t (asked_ready s seats owner its_validity e) (asked_test s seats tables owner its_validity e) ≡ asked_test s seats tables owner its_validity e
      by true is = refl
      by false is = sym (plain_test s seats tables owner its_validity e is)

module _ (P : Cells → Type 0) (b : Around) (w : meaning.World) (z : World) (s : Scope) (who : InScope) where
  abbrev seats : List NamedSeat
  seats = seats_in b.syntax w.around.roots who

  -- a statement that leaves what a deed does
  pub left_alike : (e : Exp16) (d : Deed) → ((m : sem.Moment) (k : Moment) → Shown P b.syntax who m k → m.stopped ≡ None → Shown P b.syntax who (call_statement w s e m) (ready.done z.apply d k)) → RunsAlike P b w z s who [] (expression e) (does d)
  left_alike e d f ran m k h runs = record {
    some = [];
    shown =
        subst (λ (y : sem.Moment). Shown P b.syntax who y (ready.run z ran (does d) k)) (sym (running_is m.stopped m (call_statement w s e (sem.ticked m)) runs))
        (subst (λ (y : Moment). Shown P b.syntax who (call_statement w s e (sem.ticked m)) y) (sym (running_is k.stopped k (ready.done z.apply d (blocks.ticked k)) (sym h.shows.stopped ∙ runs)))
        (f (sem.ticked m) (blocks.ticked k) (ticked_shown P b.syntax who m k h) runs));
    all = λ none. refl;
  }

  gone : (p : Place) (e : Exp16) (Q : Value → Type 0) (t : Test) → Tells P b w z s who p e Q t → (m : sem.Moment) (k : Moment) → Shown P b.syntax who m k → m.stopped ≡ None → Shown P b.syntax who (value_of w s p e m).moment (ready.done z.apply (let_go t) k)
  gone p e Q t tells m k h runs =
      let y = tells m k h runs in
      subst (λ (end : Ended). Shown P b.syntax who (value_of w s p e m).moment (with_test (record { value = end; moment = (test_value z.apply t k).moment }) (λ v n. n))) (sym y.value) y.shown

  value_gone : (e : Exp16) (Q : Value → Type 0) → ((m : sem.Moment) → call_statement w s e m ≡ (value_of w s owner e m).moment) → (o : Option Test) → IfSome o (Tells P b w z s who owner e Q) → IfSome (option_map (λ t. does (let_go t)) o) (RunsAlike P b w z s who [] (expression e))
  value_gone e Q leaves None h = tt
  value_gone e Q leaves (Some t) h = left_alike e (let_go t) (λ m k shown runs. subst (λ (y : sem.Moment). Shown P b.syntax who y (ready.done z.apply (let_go t) k)) (sym (leaves m)) (gone owner e Q t h m k shown runs))

  -- what is no call
  abbrev Alike : Exp16 → Type 0
  Alike e = IfSome (expression_ready b s seats e) (RunsAlike P b w z s who [] (expression e))

  abbrev NoCall : Exp16 → Type 0
  NoCall (call g handed) = ⊥
  NoCall e = Unit {0}

  pub values_gone : TestsTell P b w z s who → (e : Exp16) → NoCall e → Keeps s statement e → ToldNone s e → Alike e
  values_gone tell (literal n) free keeps told = value_gone (literal n) (IsValueOf owner (kind_of s (literal n))) (λ m. refl) (ready_test s seats (table_found b) owner (literal n)) (tell owner statement (literal n) keeps told)
  values_gone tell (truth holds) free keeps told = value_gone (truth holds) (IsValueOf owner (kind_of s (truth holds))) (λ m. refl) (ready_test s seats (table_found b) owner (truth holds)) (tell owner statement (truth holds) keeps told)
  values_gone tell error free keeps told = value_gone error (IsValueOf owner (kind_of s error)) (λ m. refl) (ready_test s seats (table_found b) owner error) (tell owner statement error keeps told)
  values_gone tell (name text) free keeps told = value_gone (name text) (IsValueOf owner (kind_of s (name text))) (λ m. refl) (ready_test s seats (table_found b) owner (name text)) (tell owner statement (name text) keeps told)
  values_gone tell (member e word) free keeps told = value_gone (member e word) (IsValueOf owner (kind_of s (member e word))) (λ m. refl) (ready_test s seats (table_found b) owner (member e word)) (tell owner statement (member e word) keeps told)
  values_gone tell (index e at) free keeps told = value_gone (index e at) (IsValueOf owner (kind_of s (index e at))) (λ m. refl) (ready_test s seats (table_found b) owner (index e at)) (tell owner statement (index e at) keeps told)
  values_gone tell (slice e high low) free keeps told = value_gone (slice e high low) (IsValueOf owner (kind_of s (slice e high low))) (λ m. refl) (ready_test s seats (table_found b) owner (slice e high low)) (tell owner statement (slice e high low) keeps told)
  values_gone tell (lookahead e to handed) free keeps told = value_gone (lookahead e to handed) (IsValueOf owner (kind_of s (lookahead e to handed))) (λ m. refl) (ready_test s seats (table_found b) owner (lookahead e to handed)) (tell owner statement (lookahead e to handed) keeps told)
  values_gone tell (cast to e) free keeps told = value_gone (cast to e) (IsValueOf owner (kind_of s (cast to e))) (λ m. refl) (ready_test s seats (table_found b) owner (cast to e)) (tell owner statement (cast to e) keeps told)
  values_gone tell (unary operator e) free keeps told = value_gone (unary operator e) (IsValueOf owner (kind_of s (unary operator e))) (λ m. refl) (ready_test s seats (table_found b) owner (unary operator e)) (tell owner statement (unary operator e) keeps told)
  values_gone tell (binary operator a d) free keeps told = value_gone (binary operator a d) (IsValueOf owner (kind_of s (binary operator a d))) (λ m. refl) (ready_test s seats (table_found b) owner (binary operator a d)) (tell owner statement (binary operator a d) keeps told)
  values_gone tell (choice c a d) free keeps told = value_gone (choice c a d) (IsValueOf owner (kind_of s (choice c a d))) (λ m. refl) (ready_test s seats (table_found b) owner (choice c a d)) (tell owner statement (choice c a d) keeps told)
  values_gone tell (parenthesized e) free keeps told = value_gone (parenthesized e) (IsValueOf owner (kind_of s (parenthesized e))) (λ m. refl) (ready_test s seats (table_found b) owner (parenthesized e)) (tell owner statement (parenthesized e) keeps told)
  values_gone tell no_arguments free keeps told = value_gone no_arguments (IsValueOf owner (kind_of s no_arguments)) (λ m. refl) (ready_test s seats (table_found b) owner no_arguments) (tell owner statement no_arguments keeps told)
  values_gone tell (argument before last) free keeps told = value_gone (argument before last) (IsValueOf owner (kind_of s (argument before last))) (λ m. refl) (ready_test s seats (table_found b) owner (argument before last)) (tell owner statement (argument before last) keeps told)
  values_gone tell (listed es) free keeps told = value_gone (listed es) (IsValueOf owner (kind_of s (listed es))) (λ m. refl) (ready_test s seats (table_found b) owner (listed es)) (tell owner statement (listed es) keeps told)
  values_gone tell (call g handed) free keeps told = absurd free

  -- the validity of a header
  validity_gone : TestsTell P b w z s who → (e handed : Exp16) (type word : Name) → kind_of s e ≡ header type → bytes_eq word (codes "isValid") ≡ true → Keeps s statement (call (member e word) handed) → ToldNone s e → IfSome (option_map let_go (asked_test s seats (table_found b) owner its_validity e)) (λ d. RunsAlike P b w z s who [] (expression (call (member e word) handed)) (does d))
  validity_gone tell e handed type word kind is keeps told =
      subst (λ (o : Option Test). IfSome (option_map let_go o) (λ d. RunsAlike P b w z s who [] (expression (call (member e word) handed)) (does d))) (validity_asked s seats (table_found b) owner e handed type word kind)
      (by (ready_test s seats (table_found b) owner (call (member e word) handed)) (tell owner statement (call (member e word) handed) keeps (subst (λ (k : Kind). IsTold k word) (sym kind) tt, told))) where
        leaves : (m : sem.Moment) → call_statement w s (call (member e word) handed) m ≡ (value_of w s owner (call (member e word) handed) m).moment
        leaves m =
            ap (λ (k : Kind). method_call w s k e word handed m) kind
            ∙ (ap (λ (t : Bool). cond t (value_of w s owner e m).moment (sem.going_on (header_call word (reference_of w.around s e m).reference) (reference_of w.around s e m).moment)) is
            ∙ ap (λ (k : Kind). (method_value w k e (value_of w s owner e m)).moment) (sym kind))

        by : (o : Option Test) → IfSome o (Tells P b w z s who owner (call (member e word) handed) (IsValueOf owner (kind_of s (call (member e word) handed)))) → IfSome (option_map let_go o) (λ d. RunsAlike P b w z s who [] (expression (call (member e word) handed)) (does d))
        by None h = tt
        by (Some t) h = left_alike (call (member e word) handed) (let_go t) (λ m k shown runs. subst (λ (y : sem.Moment). Shown P b.syntax who y (ready.done z.apply (let_go t) k)) (sym (leaves m)) (gone owner (call (member e word) handed) (IsValueOf owner (kind_of s (call (member e word) handed))) t h m k shown runs))

  module _ (accepted : BreaksNone b.syntax program_rules) (layouts : s.layouts ≡ layouts_of b.syntax.decls) (seated : NamesSeated s (seats_in b.syntax w.around.roots who)) (fine : Fine s) (scope : IsScope (length (variable_kinds b.syntax)) who) where
    -- a header is marked
    marked : (e handed : Exp16) (type word : Name) (on : Bool) (F : Reference → sem.Moment → sem.Moment) → kind_of s e ≡ header type → bytes_eq word (codes "isValid") ≡ false → ((r : Reference) (m : sem.Moment) → header_call word r m ≡ F r m)
        → ((x : Meant) (place : RangePlace) (m : sem.Moment) (k : Moment) → meant_by s seats e ≡ Some x → parts_meant s.layouts x ≡ Some place → Shown P b.syntax who m k → m.stopped ≡ None → Shown P b.syntax who (sem.going_on (F (reference_of w.around s e m).reference) (reference_of w.around s e m).moment) (with_range (range_at k.cells place) k (λ r. header_made on r k)))
        → IfSome (option_map (λ r. mark r on) (range_given s seats e)) (λ d. RunsAlike P b w z s who [] (expression (call (member e word) handed)) (does d))
    marked e handed type word on F kind other same marks = by_meant (meant_by s seats e) refl where
      leaves : (m : sem.Moment) → method_call w s (kind_of s e) e word handed m ≡ sem.going_on (F (reference_of w.around s e m).reference) (reference_of w.around s e m).moment
      leaves m =
          ap (λ (j : Kind). method_call w s j e word handed m) kind
          ∙ (ap (λ (t : Bool). cond t (value_of w s owner e m).moment (sem.going_on (header_call word (reference_of w.around s e m).reference) (reference_of w.around s e m).moment)) other
          ∙ ap (λ (y : sem.Moment). cond (sem.is_stopped (reference_of w.around s e m).moment) (reference_of w.around s e m).moment y) (same (reference_of w.around s e m).reference (reference_of w.around s e m).moment))

      by_parts : (x : Meant) (q : Option RangePlace) → meant_by s seats e ≡ Some x → parts_meant s.layouts x ≡ q → IfSome (option_map (λ r. mark r on) q) (λ d. RunsAlike P b w z s who [] (expression (call (member e word) handed)) (does d))
      by_parts x None means is = tt
      by_parts x (Some place) means is =
          left_alike (call (member e word) handed) (mark place on)
          (λ m k h runs. subst (λ (y : sem.Moment). Shown P b.syntax who y (with_range (range_at k.cells place) k (λ r. header_made on r k))) (sym (leaves m)) (marks x place m k means is h runs))

      by_meant : (o : Option Meant) → meant_by s seats e ≡ o → IfSome (option_map (λ r. mark r on) (option_and_then (parts_meant s.layouts) o)) (λ d. RunsAlike P b w z s who [] (expression (call (member e word) handed)) (does d))
      by_meant None is = tt
      by_meant (Some x) is = by_parts x (parts_meant s.layouts x) is refl

    set_call : (word : Name) → bytes_eq word (codes "setValid") ≡ true → (r : Reference) (m : sem.Moment) → header_call word r m ≡ set_valid r m
    set_call word is r m = ap (λ (t : Bool). cond t (set_valid r m) (cond (bytes_eq word (codes "setInvalid")) (set_invalid r m) m)) is

    unset_call : (word : Name) → bytes_eq word (codes "setValid") ≡ false → bytes_eq word (codes "setInvalid") ≡ true → (r : Reference) (m : sem.Moment) → header_call word r m ≡ set_invalid r m
    unset_call word other is r m =
        ap (λ (t : Bool). cond t (set_valid r m) (cond (bytes_eq word (codes "setInvalid")) (set_invalid r m) m)) other
        ∙ ap (λ (t : Bool). cond t (set_invalid r m) m) is

    header_called : TestsTell P b w z s who → (e handed : Exp16) (type word : Name) → kind_of s e ≡ header type → Keeps s statement (call (member e word) handed) → ToldNone s e → IfSome (header_deed b s seats e word) (λ d. RunsAlike P b w z s who [] (expression (call (member e word) handed)) (does d))
    header_called tell e handed type word kind keeps told = first (bytes_eq word (codes "setValid")) refl where
      not_both : (u v : Name) → bytes_eq u v ≡ false → bytes_eq word u ≡ true → bytes_eq word v ≡ false
      not_both u v other is = subst (λ (t : Name). bytes_eq t v ≡ false) (sym ((bytes_eq-Decides word u).0 is)) other

      third : (t : Bool) → bytes_eq word (codes "isValid") ≡ t → IfSome (cond t (option_map let_go (asked_test s seats (table_found b) owner its_validity e)) None) (λ d. RunsAlike P b w z s who [] (expression (call (member e word) handed)) (does d))
      third true is = validity_gone tell e handed type word kind is keeps told
      third false is = tt

      second : (t : Bool) → bytes_eq word (codes "setInvalid") ≡ t → IfSome (cond t (option_map (λ r. mark r false) (range_given s seats e)) (cond (bytes_eq word (codes "isValid")) (option_map let_go (asked_test s seats (table_found b) owner its_validity e)) None)) (λ d. RunsAlike P b w z s who [] (expression (call (member e word) handed)) (does d))
      second true is =
          marked e handed type word false set_invalid kind (not_both (codes "setInvalid") (codes "isValid") refl is) (unset_call word (not_both (codes "setInvalid") (codes "setValid") refl is) is)
          (λ x place m k means parts h runs. (header_marked P b w s who accepted layouts e x type place m k scope fine seated kind means parts h runs).1)
      second false other = third (bytes_eq word (codes "isValid")) refl

      first : (t : Bool) → bytes_eq word (codes "setValid") ≡ t → IfSome (cond t (option_map (λ r. mark r true) (range_given s seats e)) (cond (bytes_eq word (codes "setInvalid")) (option_map (λ r. mark r false) (range_given s seats e)) (cond (bytes_eq word (codes "isValid")) (option_map let_go (asked_test s seats (table_found b) owner its_validity e)) None))) (λ d. RunsAlike P b w z s who [] (expression (call (member e word) handed)) (does d))
      first true is =
          marked e handed type word true set_valid kind (not_both (codes "setValid") (codes "isValid") refl is) (set_call word is)
          (λ x place m k means parts h runs. (header_marked P b w s who accepted layouts e x type place m k scope fine seated kind means parts h runs).0)
      first false other = second (bytes_eq word (codes "setInvalid")) refl

    -- what headers can do
    pub headers_done : TestsTell P b w z s who → (e handed : Exp16) (type word : Name) → kind_of s e ≡ header type → Keeps s statement (call (member e word) handed) → ToldNone s e → Alike (call (member e word) handed)
    headers_done tell e handed type word kind keeps told =
        subst (λ (j : Kind). IfSome (option_map does (method_deed b s seats j e word (arguments_of handed))) (RunsAlike P b w z s who [] (expression (call (member e word) handed)))) (sym kind)
        (each (header_deed b s seats e word) (header_called tell e handed type word kind keeps told)) where
          each : (o : Option Deed) → IfSome o (λ d. RunsAlike P b w z s who [] (expression (call (member e word) handed)) (does d)) → IfSome (option_map does o) (RunsAlike P b w z s who [] (expression (call (member e word) handed)))
          each None h = tt
          each (Some d) h = h
