-- A variable with an initial value, which is a single one.
use Rattle.std.proofs.Common.{◌≡◌, inl, inr, ℕ, ◌+◌, ◌≤◌, Bool, true, cond, Option, Some, None, IfSome, List, [], ◌∷◌, length, get_or, refl, sym, ap, ◌∙◌, subst}
use Rattle.std.specs.Prelude.{option_map, option_and_then}
use Rattle.std.specs.Str.{bytes_eq}
use Rattle.std.proofs.lemmas.Slice.Eq.{bytes_eq-Decides}
use Rattle.p416_syntax.specs.declared.parts.Type16.{Type16}
use Rattle.p416_syntax.specs.declared.program.Syntax16.{Syntax16}
use Rattle.p416_syntax.specs.Tree.{Exp16, var_is}
use Rattle.p416_syntax.specs.Names.{Name}
use Rattle.p416_syntax.specs.Kinds.{Kind, bits, unsized, boolean, error_code, header, stack, struct, packet_in, packet_out, errors, enumeration, one_of, table, applied, object, items, nothing, unknown}
use Rattle.p416_syntax.specs.Scopes.{Layout, a_value, sort_in, Scope, kind_of_type}
use Rattle.p416_syntax.specs.Calls.{value}
use Rattle.p416_syntax.specs.Expressions.{kind_of}
use Rattle.p416_syntax.specs.Statements.{with_variable}
use Rattle.p416_syntax.specs.Breaks.{BreaksNone, program_rules}
use Rattle.p416_syntax.specs.Declarations.{layouts_of}
use Rattle.v1_core.specs.Values.{Value, a_member, no_value, to_member, with_member, member_in, with_part_at, fitted, zero_value}
use Rattle.v1_core.specs.Frames as sem
use Rattle.v1_core.specs.Frames.{Frame, Reference, of_inner, put_at}
use Rattle.v1_core.specs.Slots.{the_variable, part_with, variable_kinds}
use Rattle.v1_core.specs.Surroundings as meaning
use Rattle.v1_core.specs.Numbered.{InScope, Numbered, number_of, part_behind}
use Rattle.v1_core.specs.Expressions as sem_expressions
use Rattle.v1_core.specs.Expressions.{value_of}
use Rattle.v1_core.specs.Statements.{starts, initialized}
use Rattle.v1_core.specs.Cells.{Cells, slot_value}
use Rattle.v1_core.specs.Seats.{Content, some_bits, a_truth, an_error, Form, slot_form, form_of, Seat, seat_behind, seat_at}
use Rattle.v1_core.specs.PackedValues.{content_value, seat_value}
use Rattle.v1_core.specs.Programs.{owner_seat, numbered16}
use Rattle.v1_core.proofs.Laws.{part_read}
use Rattle.v1_core.specs.Ready.{Ended}
use Rattle.v1_ready_forms.specs.Named.{NamedSeat, seat_of_name, seats_in}
use Rattle.v1_ready_laws.specs.Rules.{Keeps, SortSeated, with_inner_ones}
use Rattle.v1_ready_blocks.specs.declared.places.SlotPlace.TheVariants as slot_place
use Rattle.v1_ready_blocks.specs.Moments as blocks
use Rattle.v1_ready_blocks.specs.Moments.{Moment, with_cells}
use Rattle.v1_ready_blocks.specs.Places.{put_value}
use Rattle.v1_ready_blocks.specs.Tests.{Valued, World, Test, test_value, with_test}
use Rattle.v1_ready_blocks.specs.Statements as ready
use Rattle.v1_ready_blocks.specs.Statements.{assign as assign_deed, does}
use Rattle.v1_block_laws.specs.Standing.{AreOfKinds}
use Rattle.v1_block_laws.specs.Variables.{variable}
use Rattle.v1_block_laws.proofs.Apart.{body_scope}
use Rattle.v1_parser_laws.specs.Shown.{Shows}
use Rattle.v1_place_laws.specs.Laws.{FitsSlot}
use Rattle.v1_place_laws.specs.Finding.{IsAt}
use Rattle.v1_deed_laws.proofs.Slots.{slots_put}
use Rattle.v1_ready_statements.specs.Around.{Around, table_found}
use Rattle.v1_ready_statements.specs.Tested.{ready_test}
use Rattle.v1_ready_statements.specs.Statements.{assigns, assigned_to, whole_seat, initial_ready}
use Rattle.v1_value_laws.specs.Classes.{IsOfClass}
use Rattle.v1_value_laws.proofs.Taken.{taken}
use Rattle.v1_statement_laws.specs.Behind.{Waits, Shown, LeftBehind, InContext, ValuedShows}
use Rattle.v1_statement_laws.specs.Leaves.{RunsAlike}
use Rattle.v1_statement_laws.specs.Evaluating.{Evaluates}
use Rattle.v1_statement_laws.specs.Laws.{SlotsInitialized}
use Rattle.v1_statement_laws.proofs.Closing.{ticked_shown, running_is, stopped_is}
use Rattle.v1_statement_laws.proofs.Contexts.{context_declared}
use Rattle.v1_statement_laws.proofs.Quiet.{tests_evaluate}
use Rattle.v1_statement_laws.proofs.Fitting.{whole_fits, content_is}

-- what stands in a slot of a kind takes a value as what a variable of the kind starts with does
fitted_same : (types : List Layout) (k : Kind) (of : Content) (q : ℕ) (v : Value) → form_of k ≡ slot_form of → fitted (content_value of q) v ≡ fitted (zero_value types k) v
fitted_same types (bits width) of q v is = subst (λ (c : Content). fitted (content_value c q) v ≡ fitted (zero_value types (bits width)) v) (content_is (some_bits width) of is) refl
fitted_same types boolean of q v is = subst (λ (c : Content). fitted (content_value c q) v ≡ fitted (zero_value types boolean) v) (content_is a_truth of is) refl
fitted_same types error_code of q v is = subst (λ (c : Content). fitted (content_value c q) v ≡ fitted (zero_value types error_code) v) (content_is an_error of is) refl
fitted_same types unsized of q v is = absurd (cc is)
fitted_same types (header type) of q v is = absurd (cc is)
fitted_same types (stack type many) of q v is = absurd (cc is)
fitted_same types (struct type) of q v is = absurd (cc is)
fitted_same types packet_in of q v is = absurd (cc is)
fitted_same types packet_out of q v is = absurd (cc is)
fitted_same types errors of q v is = absurd (cc is)
fitted_same types (enumeration enum) of q v is = absurd (cc is)
fitted_same types (one_of enum) of q v is = absurd (cc is)
fitted_same types table of q v is = absurd (cc is)
fitted_same types applied of q v is = absurd (cc is)
fitted_same types (object obj) of q v is = absurd (cc is)
fitted_same types items of q v is = absurd (cc is)
fitted_same types nothing of q v is = absurd (cc is)
fitted_same types unknown of q v is = absurd (cc is)

-- a variable by its name

abbrev named_reference : Name → Reference
named_reference called = record { owner = of_inner; steps = to_member called ∷ []; slice = None }

same_name : (called : Name) → bytes_eq called called ≡ true
same_name called = (bytes_eq-Decides called called).1 refl

written : (called : Name) (old v rest : Value) → with_part_at (to_member called ∷ []) v (a_member called old rest) ≡ a_member called (fitted old v) rest
written called old v rest =
    ap (λ (t : Bool). cond t (a_member called (fitted (cond t old (member_in rest called)) v) rest) (a_member called old (with_member rest called (fitted (cond t old (member_in rest called)) v)))) (same_name called)

named_at : (syntax : Syntax16) (who : InScope) (called : Name) (n : ℕ) (t : Seat) → owner_seat syntax (the_variable n) ≡ Some t → IsAt syntax (with_inner_ones (variable called n ∷ []) who) (named_reference called) None t
named_at syntax who called n t there = record {
  part = part_with (the_variable n) [];
  cuts = refl;
  means = ap (λ (u : Bool). part_behind [] (cond u (Some n) (number_of who.inner called))) (same_name called);
  seat = ap (λ (o : Option Seat). seat_behind (λ s. seat_at (layouts_of syntax.decls) [] s) o) there;
}

module _ (P : Cells → Type 0) (b : Around) (w : meaning.World) (z : World) (from to : ℕ) (accepted : BreaksNone b.syntax program_rules) where
  abbrev seats : InScope → List NamedSeat
  seats who = seats_in b.syntax w.around.roots who

  module _ (s : Scope) (who : InScope) (n : ℕ) (t : Type16) (called : Name) (e : Exp16) (at : InContext b.syntax w.around.roots from to n s who) (are : AreOfKinds (variable_kinds b.syntax) n (kind_of_type s.names t ∷ [])) (fits : n + 1 ≤ to) where
    abbrev kind : Kind
    kind = kind_of_type s.names t

    abbrev inner : InScope
    inner = with_inner_ones (variable called n ∷ []) who

    behind_it : InContext b.syntax w.around.roots from to (n + 1) (with_variable t called s) inner
    behind_it = context_declared b.syntax w.around.roots from to n s who t called are fits at

    seat_is : SortSeated (a_value kind true) (owner_seat b.syntax (the_variable n))
    seat_is = subst (λ (u : Bool). SortSeated (cond u (a_value kind true) (sort_in s.names called)) (cond u (owner_seat b.syntax (the_variable n)) (seat_of_name (seats who) called))) (same_name called) (behind_it.seated called)

    -- the value that it is given
    put : (seat : Seat) (of : Content) (v : Value) (m : sem.Moment) (k : Moment) → owner_seat b.syntax (the_variable n) ≡ Some seat → seat.form ≡ slot_form of → form_of kind ≡ slot_form of → FitsSlot of None v → Shows b.syntax who m k → Shows b.syntax inner (sem.declared called (fitted (starts s t) v) m) (with_cells (put_value seat.start.slot None v k.cells) k)
    put seat of v m k there form single fit h =
        let x : Numbered = numbered16 b.syntax k.cells in
        let old : Value = get_or x.variables n no_value in
        let before : Shows b.syntax inner (sem.declared called old m) k = record {
          frame = ap (λ (f : Frame). record f { inner = a_member called old f.inner }) h.frame;
          whole = h.whole;
          store = h.store;
          unparsed = h.unparsed;
          emitted = h.emitted;
          work = h.work;
          stopped = h.stopped;
          hit = h.hit;
        } in
        let old_is : old ≡ content_value of (slot_value k.cells seat.start.slot) =
        part_read b.syntax k.cells (part_with (the_variable n) []) seat h.whole.layout (ap (λ (o : Option Seat). seat_behind (λ s. seat_at (layouts_of b.syntax.decls) [] s) o) there)
        ∙ ap (λ (f : Form). seat_value (layouts_of b.syntax.decls) k.cells (record { depth = seat.depth; form = f; start = seat.start; owner = seat.owner })) form in
        subst (λ (y : Value). Shows b.syntax inner (sem.declared called y m) (with_cells (put_value seat.start.slot None v k.cells) k)) (ap (λ (y : Value). fitted y v) old_is ∙ fitted_same s.layouts kind of (slot_value k.cells seat.start.slot) v single)
        (subst (λ (y : Value). Shows b.syntax inner (record m { frame = record m.frame { inner = y } }) (with_cells (put_value seat.start.slot None v k.cells) k)) (written called old v m.frame.inner)
        (slots_put b.syntax inner (named_reference called) None seat of v (sem.declared called old m) k accepted (body_scope (length (variable_kinds b.syntax)) from to (n + 1) inner behind_it.body) (named_at b.syntax who called n seat there) form fit before))

    -- or the error
    by_value : (seat : Seat) (of : Content) (v : sem_expressions.Valued) (u : Valued) → owner_seat b.syntax (the_variable n) ≡ Some seat → seat.form ≡ slot_form of → form_of kind ≡ slot_form of → (v.moment.stopped ≡ None → FitsSlot of None v.value) → ValuedShows P b.syntax who v u → LeftBehind P b.syntax who (variable called n ∷ []) (initialized s t called v) (with_test u (λ x k. with_cells (put_value seat.start.slot None x k.cells) k))
    by_value seat of v u there form single fit (inl h) =
        subst (λ (y : sem.Moment). LeftBehind P b.syntax who (variable called n ∷ []) y (with_test u (λ x k. with_cells (put_value seat.start.slot None x k.cells) k))) (sym (running_is v.moment.stopped v.moment (sem.declared called (fitted (starts s t) v.value) v.moment) h.1))
        (subst (λ (end : Ended). LeftBehind P b.syntax who (variable called n ∷ []) (sem.declared called (fitted (starts s t) v.value) v.moment) (with_test (record { value = end; moment = u.moment }) (λ x k. with_cells (put_value seat.start.slot None x k.cells) k))) (sym h.0)
        (record {
          some = variable called n ∷ [];
          shown = record { shows = put seat of v.value v.moment u.moment there form single (fit h.1) h.2.shows; waits = h.2.waits };
          all = λ none. refl;
        }))
    by_value seat of v u there form single fit (inr h) =
        subst (λ (y : sem.Moment). LeftBehind P b.syntax who (variable called n ∷ []) y (with_test u (λ x k. with_cells (put_value seat.start.slot None x k.cells) k))) (sym (stopped_is v.moment.stopped h.0 v.moment (sem.declared called (fitted (starts s t) v.value) v.moment) h.2))
        (subst (λ (end : Ended). LeftBehind P b.syntax who (variable called n ∷ []) v.moment (with_test (record { value = end; moment = u.moment }) (λ x k. with_cells (put_value seat.start.slot None x k.cells) k))) (sym h.1)
        (record {
          some = [];
          shown = h.3;
          all = λ none. absurd (cc (sym none ∙ h.2));
        }))

    given_it : (seat : Seat) (of : Content) (test : Test) → owner_seat b.syntax (the_variable n) ≡ Some seat → seat.form ≡ slot_form of → form_of kind ≡ slot_form of → Keeps s (value kind) e → Evaluates P b w z s who (value kind) e (IsOfClass (kind_of s e)) test → RunsAlike P b w z s who (variable called n ∷ []) (var_is t called e) (does (assign_deed (slot_place.Fixed seat.start.slot) None test))
    given_it seat of test there form single keeps evaluates ran m k h runs =
        let next : Shown P b.syntax who (sem.ticked m) (blocks.ticked k) = ticked_shown P b.syntax who m k h in
        let x : sem_expressions.Valued = value_of w s (value kind) e (sem.ticked m) in
        let d : ready.Deed = assign_deed (slot_place.Fixed seat.start.slot) None test in
        subst (λ (y : sem.Moment). LeftBehind P b.syntax who (variable called n ∷ []) y (ready.run z ran (does d) k)) (sym (running_is m.stopped m (initialized s t called x) runs))
        (subst (λ (y : Moment). LeftBehind P b.syntax who (variable called n ∷ []) (initialized s t called x) y) (sym (running_is k.stopped k (ready.done z.apply d (blocks.ticked k)) (sym h.shows.stopped ∙ runs)))
        (by_value seat of x (test_value z.apply test (blocks.ticked k)) there form single
        (λ ends. whole_fits kind of e (kind_of s e) x.value (sym single) (taken s (value kind) e keeps.0) (evaluates.holds (sem.ticked m) (blocks.ticked k) next runs ends))
        (evaluates.gives (sem.ticked m) (blocks.ticked k) next runs)))

    pub initial_does : (of : Content) → form_of kind ≡ slot_form of → Keeps s (value kind) e → IfSome (ready_test s (seats who) (table_found b) (value kind) e) (Evaluates P b w z s who (value kind) e (IsOfClass (kind_of s e))) → IfSome (initial_ready b s (seats who) n kind e) (RunsAlike P b w z s who (variable called n ∷ []) (var_is t called e))
    initial_does of single keeps tests = by_seat (owner_seat b.syntax (the_variable n)) refl seat_is where
      by_test : (seat : Seat) → owner_seat b.syntax (the_variable n) ≡ Some seat → seat.form ≡ slot_form of → (o : Option Test) → IfSome o (Evaluates P b w z s who (value kind) e (IsOfClass (kind_of s e))) → IfSome (option_map does (assigns None (Some (slot_place.Fixed seat.start.slot)) o)) (RunsAlike P b w z s who (variable called n ∷ []) (var_is t called e))
      by_test seat there form None h = tt
      by_test seat there form (Some test) h = given_it seat of test there form single keeps h

      by_seat : (o : Option Seat) → owner_seat b.syntax (the_variable n) ≡ o → SortSeated (a_value kind true) o → IfSome (option_map does (option_and_then (λ u. assigned_to b s (seats who) (value kind) e (whole_seat u)) o)) (RunsAlike P b w z s who (variable called n ∷ []) (var_is t called e))
      by_seat None there h = tt
      by_seat (Some seat) there h =
          subst (λ (f : Form). IfSome (option_map does (assigned_to b s (seats who) (value kind) e (whole_seat (record { depth = seat.depth; form = f; start = seat.start; owner = seat.owner })))) (RunsAlike P b w z s who (variable called n ∷ []) (var_is t called e))) (sym (h ∙ single))
          (by_test seat there (h ∙ single) (ready_test s (seats who) (table_found b) (value kind) e) tests)

pub slots_initialized : SlotsInitialized
slots_initialized calls b w z from to n s who t called e of accepted at are fits none single keeps =
    initial_does (Waits calls b.syntax) b w z from to accepted s who n t called e at are fits of single keeps
    (tests_evaluate calls b w z from to n s who (value (kind_of_type s.names t)) (value (kind_of_type s.names t)) e accepted at none keeps)
