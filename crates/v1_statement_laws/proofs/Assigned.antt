-- An assignment of a single value, with its target and its test.
use Rattle.std.proofs.Common.{◌≡◌, true, Option, Some, None, IfSome, List, [], length, refl, sym, ◌∙◌, subst}
use Rattle.std.specs.Prelude.{option_map}
use Rattle.p416_syntax.specs.Tree.{Exp16, assign}
use Rattle.p416_syntax.specs.Scopes.{Scope}
use Rattle.p416_syntax.specs.Calls.{Place}
use Rattle.p416_syntax.specs.Expressions.{kind_of, is_chosen}
use Rattle.p416_syntax.specs.Statements.{assigned_place}
use Rattle.p416_syntax.specs.Types.{takes}
use Rattle.p416_syntax.specs.Breaks.{BreaksNone, program_rules}
use Rattle.p416_syntax.specs.Declarations.{layouts_of}
use Rattle.v1_core.specs.Frames as sem
use Rattle.v1_core.specs.Slots.{variable_kinds}
use Rattle.v1_core.specs.Surroundings as meaning
use Rattle.v1_core.specs.Numbered.{InScope}
use Rattle.v1_core.specs.Expressions.{reference_of}
use Rattle.v1_core.specs.Statements.{assigned}
use Rattle.v1_core.specs.Cells.{Cells}
use Rattle.v1_core.specs.Seats.{Content, Form, slot_form, header_form, stack_form, struct_form, no_form}
use Rattle.v1_core.specs.Scopes.{IsScope}
use Rattle.v1_ready_forms.specs.Named.{NamedSeat, seats_in}
use Rattle.v1_ready_laws.specs.Rules.{Keeps, NamesSeated}
use Rattle.v1_ready_blocks.specs.declared.places.SlotPlace.{SlotPlace}
use Rattle.v1_ready_blocks.specs.Moments as blocks
use Rattle.v1_ready_blocks.specs.Moments.{Moment}
use Rattle.v1_ready_blocks.specs.Places.{slot_at}
use Rattle.v1_ready_blocks.specs.Tests.{World, Test}
use Rattle.v1_ready_blocks.specs.Statements as ready
use Rattle.v1_ready_blocks.specs.Statements.{Deed, assign as assign_deed, does}
use Rattle.v1_place_laws.specs.Places.{Meant, meant_by, slot_place_of}
use Rattle.v1_place_laws.specs.Laws.{FitsSlot}
use Rattle.v1_place_laws.specs.Finding.{FoundAt, IsFound, seat_now}
use Rattle.v1_place_laws.proofs.Finding.{places_found}
use Rattle.v1_ready_statements.specs.Around.{Around, table_found}
use Rattle.v1_ready_statements.specs.Targets.{ready_slice}
use Rattle.v1_ready_statements.specs.Tested.{ready_test}
use Rattle.v1_ready_statements.specs.Statements.{assigns, assigned_to}
use Rattle.v1_value_laws.specs.Kinds.{Fine}
use Rattle.v1_value_laws.specs.Classes.{IsOfClass}
use Rattle.v1_value_laws.proofs.Taken.{taken}
use Rattle.v1_statement_laws.specs.Behind.{Waits, Shown}
use Rattle.v1_statement_laws.specs.Laws.{SlotsAssigned}
use Rattle.v1_statement_laws.specs.Leaves.{RunsAlike}
use Rattle.v1_statement_laws.specs.Evaluating.{Evaluates}
use Rattle.v1_statement_laws.proofs.Closing.{ticked_shown, running_is}
use Rattle.v1_statement_laws.proofs.Assigning.{slot_found, by_place}
use Rattle.v1_block_laws.proofs.Apart.{body_scope}
use Rattle.v1_statement_laws.proofs.Quiet.{tests_evaluate}
use Rattle.v1_statement_laws.proofs.Fitting.{fits_target}

at_some : {A : Type 0} (B : A → Type 0) (o : Option A) (x : A) → o ≡ Some x → IfSome o B → B x
at_some {A = A} B o x is h = subst (λ (p : Option A). IfSome p B) is h

module _ (P : Cells → Type 0) (b : Around) (w : meaning.World) (z : World) (s : Scope) (who : InScope) (accepted : BreaksNone b.syntax program_rules) (layouts : s.layouts ≡ layouts_of b.syntax.decls) (seated : NamesSeated s (seats_in b.syntax w.around.roots who)) (fine : Fine s) (scope : IsScope (length (variable_kinds b.syntax)) who) where
  abbrev seats : List NamedSeat
  seats = seats_in b.syntax w.around.roots who

  abbrev place : Exp16 → Place
  place target = assigned_place (kind_of s target)

  fitting : (target e : Exp16) (x : Meant) (of : Content) (t : Test) → is_chosen (kind_of s target) ≡ true → takes (place target) e (kind_of s e) ≡ true → meant_by s seats target ≡ Some x → x.spot.seat.form ≡ slot_form of → Evaluates P b w z s who (place target) e (IsOfClass (kind_of s e)) t → Evaluates P b w z s who (place target) e (FitsSlot of (option_map ready_slice x.slice)) t
  fitting target e x of t chosen taking means form evaluates = record {
    gives = evaluates.gives;
    holds = λ m k h runs ends. fits_target s seats target e x of (kind_of s e) _ fine seated chosen means form taking (evaluates.holds m k h runs ends);
    stays = evaluates.stays;
  }

  pub slot_assigned : (target e : Exp16) (x : Meant) (of : Content) (to : SlotPlace) (t : Test) → is_chosen (kind_of s target) ≡ true → takes (place target) e (kind_of s e) ≡ true → meant_by s seats target ≡ Some x → x.spot.seat.form ≡ slot_form of → slot_place_of x.spot ≡ Some to → Evaluates P b w z s who (place target) e (IsOfClass (kind_of s e)) t → RunsAlike P b w z s who [] (assign target e) (does (assign_deed to (option_map ready_slice x.slice) t))
  slot_assigned target e x of to t chosen taking means form place_is evaluates ran m k h runs =
      let next : Shown P b.syntax who (sem.ticked m) (blocks.ticked k) = ticked_shown P b.syntax who m k h in
      let found : FoundAt b.syntax who x.slice (reference_of w.around s target (sem.ticked m)) (sem.ticked m) (seat_now (blocks.ticked k).cells x.spot) =
      at_some (λ (y : Meant). IsFound b.syntax who (blocks.ticked k).cells y (reference_of w.around s target (sem.ticked m)) (sem.ticked m)) (meant_by s seats target) x means
      (places_found b.syntax (blocks.ticked k).cells w.around s who (sem.ticked m) target accepted next.shows.whole layouts next.shows.frame runs) in
      record {
        some = [];
        shown =
            subst (λ (y : sem.Moment). Shown P b.syntax who y (ready.run z ran (does (assign_deed to (option_map ready_slice x.slice) t)) k)) (sym (running_is m.stopped m (assigned w s target e (sem.ticked m)) runs))
            (subst (λ (y : Moment). Shown P b.syntax who (assigned w s target e (sem.ticked m)) y) (sym (running_is k.stopped k (ready.done z.apply (assign_deed to (option_map ready_slice x.slice) t) (blocks.ticked k)) (sym h.shows.stopped ∙ runs)))
            (by_place P b w z s who accepted scope (place target) e of x t (reference_of w.around s target (sem.ticked m)) (sem.ticked m) (blocks.ticked k) (slot_at (blocks.ticked k).cells to) (seat_now (blocks.ticked k).cells x.spot) next runs
            (slot_found (blocks.ticked k).cells x.spot of to form place_is) found (fitting target e x of t chosen taking means form evaluates)));
        all = λ none. refl;
      }

  -- the deed of it
  pub assigned_slot : (target e : Exp16) (x : Meant) (of : Content) → is_chosen (kind_of s target) ≡ true → Keeps s (place target) e → meant_by s seats target ≡ Some x → x.spot.seat.form ≡ slot_form of → IfSome (ready_test s seats (table_found b) (place target) e) (Evaluates P b w z s who (place target) e (IsOfClass (kind_of s e))) → IfSome (assigned_to b s seats (place target) e x) (λ d. RunsAlike P b w z s who [] (assign target e) (does d))
  assigned_slot target e x of chosen keeps means form tests =
      by_form x.spot.seat.form form (by_both (slot_place_of x.spot) (ready_test s seats (table_found b) (place target) e) refl tests) where
        by_both : (o : Option SlotPlace) (p : Option Test) → slot_place_of x.spot ≡ o → IfSome p (Evaluates P b w z s who (place target) e (IsOfClass (kind_of s e))) → IfSome (assigns x.slice o p) (λ d. RunsAlike P b w z s who [] (assign target e) (does d))
        by_both None p is f = tt
        by_both (Some to) None is f = tt
        by_both (Some to) (Some t) is f = slot_assigned target e x of to t chosen (taken s (place target) e keeps.0) means form is f

        by_form : (f : Form) → f ≡ slot_form of → IfSome (assigns x.slice (slot_place_of (record { seat = record { depth = x.spot.seat.depth; form = f; start = x.spot.seat.start; owner = x.spot.seat.owner }; told = x.spot.told })) (ready_test s seats (table_found b) (place target) e)) (λ d. RunsAlike P b w z s who [] (assign target e) (does d)) → IfSome (assigned_to b s seats (place target) e (record { spot = record { seat = record { depth = x.spot.seat.depth; form = f; start = x.spot.seat.start; owner = x.spot.seat.owner }; told = x.spot.told }; slice = x.slice })) (λ d. RunsAlike P b w z s who [] (assign target e) (does d))
        by_form (slot_form content) is h = h
        by_form (header_form type) is h = absurd (cc is)
        by_form (stack_form type size) is h = absurd (cc is)
        by_form (struct_form type) is h = absurd (cc is)
        by_form no_form is h = absurd (cc is)

pub slots_assigned : SlotsAssigned
slots_assigned calls b w z from to n s who target e x of accepted at none keeps chosen means form =
    assigned_slot (Waits calls b.syntax) b w z s who accepted at.layouts at.seated at.fine (body_scope (length (variable_kinds b.syntax)) from to n who at.body) target e x of chosen keeps.1 means form
    (tests_evaluate calls b w z from to n s who (assigned_place (kind_of s target)) (assigned_place (kind_of s target)) e accepted at none keeps.1)
