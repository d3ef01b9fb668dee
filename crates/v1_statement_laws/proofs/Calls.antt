-- Calls of what headers can do.
use Rattle.std.proofs.Common.{◌≡◌, Bool, true, false, cond, Option, Some, None, IfSome, List, [], length, refl, sym, ap, ◌∙◌, subst}
use Rattle.std.specs.Prelude.{option_map, option_and_then, codes}
use Rattle.std.specs.Str.{bytes_eq}
use Rattle.std.proofs.lemmas.Slice.Eq.{bytes_eq-Decides}
use Rattle.p416_syntax.specs.Tree.{Exp16, member, call, expression}
use Rattle.p416_syntax.specs.Names.{Name}
use Rattle.p416_syntax.specs.Kinds.{Kind, header}
use Rattle.p416_syntax.specs.Scopes.{Scope}
use Rattle.p416_syntax.specs.Calls.{Place, owner}
use Rattle.p416_syntax.specs.Expressions.{kind_of}
use Rattle.p416_syntax.specs.Uses.{arguments_of}
use Rattle.p416_syntax.specs.Breaks.{BreaksNone, program_rules}
use Rattle.p416_syntax.specs.Declarations.{layouts_of}
use Rattle.v1_core.specs.Values.{a_truth, header_in}
use Rattle.v1_core.specs.Frames as sem
use Rattle.v1_core.specs.Frames.{Reference}
use Rattle.v1_core.specs.Slots.{variable_kinds}
use Rattle.v1_core.specs.Surroundings as meaning
use Rattle.v1_core.specs.Numbered.{InScope}
use Rattle.v1_core.specs.Expressions.{reference_of, value_of}
use Rattle.v1_core.specs.HeaderCalls.{set_valid, set_invalid, header_call}
use Rattle.v1_core.specs.Calls.{method_call, call_statement}
use Rattle.v1_core.specs.Cells.{Cells}
use Rattle.v1_core.specs.Scopes.{IsScope}
use Rattle.v1_ready_forms.specs.Named.{NamedSeat, seats_in}
use Rattle.v1_ready_forms.specs.Ways.{its_validity}
use Rattle.v1_ready_forms.specs.Expressions.{asked_ready}
use Rattle.v1_ready_laws.specs.Rules.{Keeps, NamesSeated}
use Rattle.v1_ready_blocks.specs.declared.places.RangePlace.{RangePlace}
use Rattle.v1_ready_blocks.specs.Moments as blocks
use Rattle.v1_ready_blocks.specs.Moments.{Moment}
use Rattle.v1_ready_blocks.specs.Places.{range_at}
use Rattle.v1_ready_blocks.specs.Tests.{World, Test, plain, with_range}
use Rattle.v1_ready_blocks.specs.Statements as ready
use Rattle.v1_ready_blocks.specs.Statements.{Deed, set_valid as mark, let_go, does, header_made, Statement}
use Rattle.v1_place_laws.specs.Places.{Meant, meant_by}
use Rattle.v1_ready_statements.specs.Around.{Around, table_found}
use Rattle.v1_ready_statements.specs.Targets.{parts_meant, range_given}
use Rattle.v1_ready_statements.specs.Tested.{asked_test}
use Rattle.v1_ready_statements.specs.Called.{header_deed, method_deed, expression_ready}
use Rattle.v1_value_laws.specs.Kinds.{Fine}
use Rattle.v1_statement_laws.specs.Behind.{Waits, Shown}
use Rattle.v1_statement_laws.specs.Leaves.{RunsAlike}
use Rattle.v1_statement_laws.specs.Laws.{HeadersCalled}
use Rattle.v1_statement_laws.proofs.Closing.{ticked_shown, running_is}
use Rattle.v1_statement_laws.proofs.Plain.{let_gone}
use Rattle.v1_statement_laws.proofs.Quiet.{IsPlain, only_plain, no_tables}
use Rattle.v1_statement_laws.proofs.Methods.{header_marked}
use Rattle.v1_block_laws.proofs.Apart.{body_scope}

module _ (P : Cells → Type 0) (b : Around) (w : meaning.World) (z : World) (s : Scope) (who : InScope) (accepted : BreaksNone b.syntax program_rules) (layouts : s.layouts ≡ layouts_of b.syntax.decls) (seated : NamesSeated s (seats_in b.syntax w.around.roots who)) (fine : Fine s) (scope : IsScope (length (variable_kinds b.syntax)) who) where
  abbrev seats : List NamedSeat
  seats = seats_in b.syntax w.around.roots who

  -- a call that leaves what a deed does
  pub called_alike : (e handed : Exp16) (d : Deed) → ((m : sem.Moment) (k : Moment) → Shown P b.syntax who m k → m.stopped ≡ None → Shown P b.syntax who (call_statement w s (call e handed) m) (ready.done z.apply d k)) → RunsAlike P b w z s who [] (expression (call e handed)) (does d)
  called_alike e handed d f ran m k h runs = record {
    some = [];
    shown =
        subst (λ (y : sem.Moment). Shown P b.syntax who y (ready.run z ran (does d) k)) (sym (running_is m.stopped m (call_statement w s (call e handed) (sem.ticked m)) runs))
        (subst (λ (y : Moment). Shown P b.syntax who (call_statement w s (call e handed) (sem.ticked m)) y) (sym (running_is k.stopped k (ready.done z.apply d (blocks.ticked k)) (sym h.shows.stopped ∙ runs)))
        (f (sem.ticked m) (blocks.ticked k) (ticked_shown P b.syntax who m k h) runs));
    all = λ none. refl;
  }

  -- a header is marked
  marked : (e handed : Exp16) (type word : Name) (on : Bool) (F : Reference → sem.Moment → sem.Moment) → kind_of s e ≡ header type → bytes_eq word (codes "isValid") ≡ false → ((r : Reference) (m : sem.Moment) → header_call word r m ≡ F r m)
      → ((x : Meant) (place : RangePlace) (m : sem.Moment) (k : Moment) → meant_by s seats e ≡ Some x → parts_meant s.layouts x ≡ Some place → Shown P b.syntax who m k → m.stopped ≡ None → Shown P b.syntax who (sem.going_on (F (reference_of w.around s e m).reference) (reference_of w.around s e m).moment) (with_range (range_at k.cells place) k (λ r. header_made on r k)))
      → IfSome (option_map (λ r. mark r on) (range_given s seats e)) (λ d. RunsAlike P b w z s who [] (expression (call (member e word) handed)) (does d))
  marked e handed type word on F kind other same marks = by_meant (meant_by s seats e) refl where
    leaves : (m : sem.Moment) → method_call w s (kind_of s e) e word handed m ≡ sem.going_on (F (reference_of w.around s e m).reference) (reference_of w.around s e m).moment
    leaves m =
        ap (λ (j : Kind). method_call w s j e word handed m) kind
        ∙ (ap (λ (t : Bool). cond t (value_of w s owner e m).moment (sem.going_on (header_call word (reference_of w.around s e m).reference) (reference_of w.around s e m).moment)) other
        ∙ ap (λ (y : sem.Moment). cond (sem.is_stopped (reference_of w.around s e m).moment) (reference_of w.around s e m).moment y) (same (reference_of w.around s e m).reference (reference_of w.around s e m).moment))

    by_parts : (x : Meant) (q : Option RangePlace) → meant_by s seats e ≡ Some x → parts_meant s.layouts x ≡ q → IfSome (option_map (λ r. mark r on) q) (λ d. RunsAlike P b w z s who [] (expression (call (member e word) handed)) (does d))
    by_parts x None means is = tt
    by_parts x (Some place) means is =
        called_alike (member e word) handed (mark place on)
        (λ m k h runs. subst (λ (y : sem.Moment). Shown P b.syntax who y (with_range (range_at k.cells place) k (λ r. header_made on r k))) (sym (leaves m)) (marks x place m k means is h runs))

    by_meant : (o : Option Meant) → meant_by s seats e ≡ o → IfSome (option_map (λ r. mark r on) (option_and_then (parts_meant s.layouts) o)) (λ d. RunsAlike P b w z s who [] (expression (call (member e word) handed)) (does d))
    by_meant None is = tt
    by_meant (Some x) is = by_parts x (parts_meant s.layouts x) is refl

  set_call : (word : Name) → bytes_eq word (codes "setValid") ≡ true → (r : Reference) (m : sem.Moment) → header_call word r m ≡ set_valid r m
  set_call word is r m = ap (λ (t : Bool). cond t (set_valid r m) (cond (bytes_eq word (codes "setInvalid")) (set_invalid r m) m)) is

  unset_call : (word : Name) → bytes_eq word (codes "setValid") ≡ false → bytes_eq word (codes "setInvalid") ≡ true → (r : Reference) (m : sem.Moment) → header_call word r m ≡ set_invalid r m
  unset_call word other is r m =
      ap (λ (t : Bool). cond t (set_valid r m) (cond (bytes_eq word (codes "setInvalid")) (set_invalid r m) m)) other
      ∙ ap (λ (t : Bool). cond t (set_invalid r m) m) is

  -- the validity of a header, let go
  asked_only : (e handed : Exp16) (type word : Name) (q : Place) → kind_of s e ≡ header type → bytes_eq word (codes "isValid") ≡ true → Keeps s q e → ((text : Name) → table_found b text ≡ None) → IfSome (option_map let_go (asked_test s seats (table_found b) owner its_validity e)) (λ d. RunsAlike P b w z s who [] (expression (call (member e word) handed)) (does d))
  asked_only e handed type word q kind is keeps none = by (asked_test s seats (table_found b) owner its_validity e) (only_plain s seats (table_found b) none e owner its_validity) where
    leaves : (m : sem.Moment) → method_call w s (kind_of s e) e word handed m ≡ (value_of w s owner e m).moment
    leaves m =
        ap (λ (j : Kind). method_call w s j e word handed m) kind
        ∙ ap (λ (t : Bool). cond t (value_of w s owner e m).moment (sem.going_on (header_call word (reference_of w.around s e m).reference) (reference_of w.around s e m).moment)) is

    gone : (t : Test) → IsPlain (asked_ready s seats owner its_validity e) t → RunsAlike P b w z s who [] (expression (call (member e word) handed)) (does (let_go t))
    gone t h =
        subst (λ (y : Test). RunsAlike P b w z s who [] (expression (call (member e word) handed)) (does (let_go y))) (sym h.1.0)
        (called_alike (member e word) handed (let_go (plain h.0))
        (λ m k shown runs. subst (λ (y : sem.Moment). Shown P b.syntax who y (ready.done z.apply (let_go (plain h.0)) k)) (sym (leaves m))
        (let_gone P b w z s who accepted layouts seated owner q its_validity e h.0 (λ v. (a_truth (header_in v).valid, refl)) keeps h.1.1 m k shown runs)))

    by : (o : Option Test) → IfSome o (IsPlain (asked_ready s seats owner its_validity e)) → IfSome (option_map let_go o) (λ d. RunsAlike P b w z s who [] (expression (call (member e word) handed)) (does d))
    by None h = tt
    by (Some t) h = gone t h

  -- the deed of a call
  pub header_called : (e handed : Exp16) (type word : Name) (q : Place) → kind_of s e ≡ header type → Keeps s q e → ((text : Name) → table_found b text ≡ None) → IfSome (header_deed b s seats e word) (λ d. RunsAlike P b w z s who [] (expression (call (member e word) handed)) (does d))
  header_called e handed type word q kind keeps none = first (bytes_eq word (codes "setValid")) refl where
    not_both : (u v : Name) → bytes_eq u v ≡ false → bytes_eq word u ≡ true → bytes_eq word v ≡ false
    not_both u v other is = subst (λ (t : Name). bytes_eq t v ≡ false) (sym ((bytes_eq-Decides word u).0 is)) other

    third : (t : Bool) → bytes_eq word (codes "isValid") ≡ t → IfSome (cond t (option_map let_go (asked_test s seats (table_found b) owner its_validity e)) None) (λ d. RunsAlike P b w z s who [] (expression (call (member e word) handed)) (does d))
    third true is = asked_only e handed type word q kind is keeps none
    third false is = tt

    second : (t : Bool) → bytes_eq word (codes "setInvalid") ≡ t → IfSome (cond t (option_map (λ r. mark r false) (range_given s seats e)) (cond (bytes_eq word (codes "isValid")) (option_map let_go (asked_test s seats (table_found b) owner its_validity e)) None)) (λ d. RunsAlike P b w z s who [] (expression (call (member e word) handed)) (does d))
    second true is =
        marked e handed type word false set_invalid kind (not_both (codes "setInvalid") (codes "isValid") refl is) (unset_call word (not_both (codes "setInvalid") (codes "setValid") refl is) is)
        (λ x place m k means parts h runs. (header_marked P b w s who accepted layouts e x type place m k scope fine seated kind means parts h runs).1)
    second false other = third (bytes_eq word (codes "isValid")) refl

    first : (t : Bool) → bytes_eq word (codes "setValid") ≡ t → IfSome (cond t (option_map (λ r. mark r true) (range_given s seats e)) (cond (bytes_eq word (codes "setInvalid")) (option_map (λ r. mark r false) (range_given s seats e)) (cond (bytes_eq word (codes "isValid")) (option_map let_go (asked_test s seats (table_found b) owner its_validity e)) None))) (λ d. RunsAlike P b w z s who [] (expression (call (member e word) handed)) (does d))
    first true is =
        marked e handed type word true set_valid kind (not_both (codes "setValid") (codes "isValid") refl is) (set_call word is)
        (λ x place m k means parts h runs. (header_marked P b w s who accepted layouts e x type place m k scope fine seated kind means parts h runs).0)
    first false other = second (bytes_eq word (codes "setInvalid")) refl

  pub header_does : (e handed : Exp16) (type word : Name) (q : Place) → kind_of s e ≡ header type → Keeps s q e → ((text : Name) → table_found b text ≡ None) → IfSome (expression_ready b s seats (call (member e word) handed)) (RunsAlike P b w z s who [] (expression (call (member e word) handed)))
  header_does e handed type word q kind keeps none =
      subst (λ (j : Kind). IfSome (option_map does (method_deed b s seats j e word (arguments_of handed))) (RunsAlike P b w z s who [] (expression (call (member e word) handed)))) (sym kind)
      (each (header_deed b s seats e word) (header_called e handed type word q kind keeps none)) where
        each : (o : Option Deed) → IfSome o (λ d. RunsAlike P b w z s who [] (expression (call (member e word) handed)) (does d)) → IfSome (option_map does o) (RunsAlike P b w z s who [] (expression (call (member e word) handed)))
        each None h = tt
        each (Some d) h = h

pub headers_called : HeadersCalled
headers_called calls b w z from to n s who e handed type word q accepted at none keeps kind =
    header_does (Waits calls b.syntax) b w z s who accepted at.layouts at.seated at.fine (body_scope (length (variable_kinds b.syntax)) from to n who at.body) e handed type word q kind keeps (no_tables b none)
