-- The initial value of a variable of a block, which is a single one.
use Rattle.std.proofs.Common.{◌≡◌, ℕ, Option, Some, None, IfSome, List, [], length, refl, sym, ap, ◌∙◌, subst}
use Rattle.std.specs.Prelude.{option_map, option_and_then}
use Rattle.p416_syntax.specs.declared.parsers.Var.{Var}
use Rattle.p416_syntax.specs.Tree.{Exp16}
use Rattle.p416_syntax.specs.Kinds.{Kind}
use Rattle.p416_syntax.specs.Scopes.{kind_of_type}
use Rattle.p416_syntax.specs.Calls.{value}
use Rattle.p416_syntax.specs.Expressions.{kind_of}
use Rattle.p416_syntax.specs.Breaks.{BreaksNone, program_rules}
use Rattle.p416_syntax.specs.Declarations.{layouts_of}
use Rattle.v1_core.specs.Values.{to_member}
use Rattle.v1_core.specs.Frames as sem
use Rattle.v1_core.specs.Frames.{Reference, of_variables, whole, stepped}
use Rattle.v1_core.specs.Slots.{the_variable, part_with, variable_kinds}
use Rattle.v1_core.specs.Surroundings as meaning
use Rattle.v1_core.specs.Numbered.{InScope, number_of, part_behind}
use Rattle.v1_core.specs.Expressions as sem_expressions
use Rattle.v1_core.specs.Expressions.{value_of}
use Rattle.v1_core.specs.Blocks.{with_value, with_initial}
use Rattle.v1_core.specs.Cells.{Cells}
use Rattle.v1_core.specs.Seats.{Content, Form, slot_form, form_of, Seat, seat_behind, seat_at}
use Rattle.v1_core.specs.Programs.{owner_seat}
use Rattle.v1_core.specs.Scopes.{IsScope}
use Rattle.v1_ready_forms.specs.Named.{NamedSeat, seats_in}
use Rattle.v1_ready_laws.specs.Rules.{Keeps}
use Rattle.v1_ready_blocks.specs.declared.places.SlotPlace.TheVariants as slot_place
use Rattle.v1_ready_blocks.specs.Moments as blocks
use Rattle.v1_ready_blocks.specs.Moments.{Moment}
use Rattle.v1_ready_blocks.specs.Tests.{World, Test, test_value}
use Rattle.v1_ready_blocks.specs.Statements as ready
use Rattle.v1_ready_blocks.specs.Statements.{Deed, Statement, assign as assign_deed, does}
use Rattle.v1_place_laws.specs.Finding.{IsAt}
use Rattle.v1_block_laws.proofs.Apart.{body_scope}
use Rattle.v1_ready_statements.specs.Around.{Around, table_found}
use Rattle.v1_ready_statements.specs.Tested.{ready_test}
use Rattle.v1_ready_statements.specs.Statements.{assigns, assigned_to, whole_seat, initial_ready}
use Rattle.v1_value_laws.specs.Classes.{IsOfClass}
use Rattle.v1_value_laws.proofs.Taken.{taken}
use Rattle.v1_statement_laws.specs.Behind.{Waits, Shown}
use Rattle.v1_statement_laws.specs.Evaluating.{Evaluates}
use Rattle.v1_statement_laws.specs.Laws.{VariablesInitialized}
use Rattle.v1_statement_laws.proofs.Closing.{ticked_shown, running_is}
use Rattle.v1_statement_laws.proofs.Assigning.{value_put}
use Rattle.v1_statement_laws.proofs.Quiet.{tests_evaluate}
use Rattle.v1_statement_laws.proofs.Fitting.{whole_fits}

module _ (P : Cells → Type 0) (b : Around) (w : meaning.World) (z : World) (who : InScope) (accepted : BreaksNone b.syntax program_rules) (scope : IsScope (length (variable_kinds b.syntax)) who) (v : Var) (e : Exp16) (n : ℕ) (of : Content) where
  abbrev seats : List NamedSeat
  seats = seats_in b.syntax w.around.roots who

  abbrev kind : Kind
  kind = kind_of_type w.around.scope.names v.of

  abbrev reference : Reference
  reference = stepped (whole of_variables) (to_member v.name)

  abbrev Begins : Statement → Type 0
  Begins r = (ran : Option ℕ) (m : sem.Moment) (k : Moment) → Shown P b.syntax who m k → m.stopped ≡ None → Shown P b.syntax who (with_initial w m v) (ready.run z ran r k)

  given_it : (seat : Seat) (test : Test) → v.initial ≡ Some e → number_of who.variables v.name ≡ Some n → owner_seat b.syntax (the_variable n) ≡ Some seat → seat.form ≡ slot_form of → form_of kind ≡ slot_form of → Keeps w.around.scope (value kind) e → Evaluates P b w z w.around.scope who (value kind) e (IsOfClass (kind_of w.around.scope e)) test → Begins (does (assign_deed (slot_place.Fixed seat.start.slot) None test))
  given_it seat test initial numbered there form single keeps evaluates ran m k h runs =
      let next : Shown P b.syntax who (sem.ticked m) (blocks.ticked k) = ticked_shown P b.syntax who m k h in
      let x : sem_expressions.Valued = value_of w w.around.scope (value kind) e (sem.ticked m) in
      let d : Deed = assign_deed (slot_place.Fixed seat.start.slot) None test in
      let at : IsAt b.syntax who reference None seat = record {
        part = part_with (the_variable n) [];
        cuts = refl;
        means = ap (λ (o : Option ℕ). part_behind [] o) numbered;
        seat = ap (λ (o : Option Seat). seat_behind (λ s. seat_at (layouts_of b.syntax.decls) [] s) o) there;
      } in
      subst (λ (o : Option Exp16). Shown P b.syntax who (with_initial w m (record { of = v.of; name = v.name; initial = o })) (ready.run z ran (does d) k)) (sym initial)
      (subst (λ (y : sem.Moment). Shown P b.syntax who y (ready.run z ran (does d) k)) (sym (running_is m.stopped m (with_value v.name x) runs))
      (subst (λ (y : Moment). Shown P b.syntax who (with_value v.name x) y) (sym (running_is k.stopped k (ready.done z.apply d (blocks.ticked k)) (sym h.shows.stopped ∙ runs)))
      (value_put P b w z w.around.scope who accepted scope reference None seat of x (test_value z.apply test (blocks.ticked k)) at form
      (λ ends. whole_fits kind of e (kind_of w.around.scope e) x.value (sym single) (taken w.around.scope (value kind) e keeps.0) (evaluates.holds (sem.ticked m) (blocks.ticked k) next runs ends))
      (evaluates.gives (sem.ticked m) (blocks.ticked k) next runs))))

  pub begins : v.initial ≡ Some e → number_of who.variables v.name ≡ Some n → IfSome (owner_seat b.syntax (the_variable n)) (λ t. t.form ≡ slot_form of) → form_of kind ≡ slot_form of → Keeps w.around.scope (value kind) e → IfSome (ready_test w.around.scope seats (table_found b) (value kind) e) (Evaluates P b w z w.around.scope who (value kind) e (IsOfClass (kind_of w.around.scope e))) → IfSome (initial_ready b w.around.scope seats n kind e) Begins
  begins initial numbered forms single keeps tests = by_seat (owner_seat b.syntax (the_variable n)) refl forms where
    by_test : (seat : Seat) → owner_seat b.syntax (the_variable n) ≡ Some seat → seat.form ≡ slot_form of → (o : Option Test) → IfSome o (Evaluates P b w z w.around.scope who (value kind) e (IsOfClass (kind_of w.around.scope e))) → IfSome (option_map does (assigns None (Some (slot_place.Fixed seat.start.slot)) o)) Begins
    by_test seat there form None h = tt
    by_test seat there form (Some test) h = given_it seat test initial numbered there form single keeps h

    by_seat : (o : Option Seat) → owner_seat b.syntax (the_variable n) ≡ o → IfSome o (λ t. t.form ≡ slot_form of) → IfSome (option_map does (option_and_then (λ u. assigned_to b w.around.scope seats (value kind) e (whole_seat u)) o)) Begins
    by_seat None there h = tt
    by_seat (Some seat) there h =
        subst (λ (f : Form). IfSome (option_map does (assigned_to b w.around.scope seats (value kind) e (whole_seat (record { depth = seat.depth; form = f; start = seat.start; owner = seat.owner })))) Begins) (sym h)
        (by_test seat there h (ready_test w.around.scope seats (table_found b) (value kind) e) tests)

pub variables_initialized : VariablesInitialized
variables_initialized calls b w z from to next who v e n of accepted at none initial numbered forms single keeps =
    begins (Waits calls b.syntax) b w z who accepted (body_scope (length (variable_kinds b.syntax)) from to next who at.body) v e n of initial numbered forms single keeps
    (tests_evaluate calls b w z from to next w.around.scope who (value (kind_of_type w.around.scope.names v.of)) (value (kind_of_type w.around.scope.names v.of)) e accepted at none keeps)
