-- Variables that begin with a header, a stack or a struct.
use Rattle.std.proofs.Common.{◌≡◌, ℕ, zero, suc, ◌+◌, ◌≤◌, Bool, true, cond, Option, Some, None, IfSome, List, [], ◌∷◌, length, get_or, refl, sym, ap, ◌∙◌, subst}
use Rattle.std.specs.Prelude.{option_map, option_and_then}
use Rattle.std.specs.Str.{bytes_eq}
use Rattle.std.proofs.lemmas.Slice.Eq.{bytes_eq-Decides}
use Rattle.p416_syntax.specs.declared.parts.Type16.{Type16}
use Rattle.p416_syntax.specs.declared.parsers.Var.{Var}
use Rattle.p416_syntax.specs.declared.program.Syntax16.{Syntax16}
use Rattle.p416_syntax.specs.Tree.{Exp16, var_is}
use Rattle.p416_syntax.specs.Names.{Name}
use Rattle.p416_syntax.specs.Kinds.{Kind, bits, unsized, boolean, error_code, header, stack, struct, packet_in, packet_out, errors, enumeration, one_of, table, applied, object, items, nothing, unknown}
use Rattle.p416_syntax.specs.Scopes.{Layout, FieldKind, fields_in, a_value, sort_in, Scope, kind_of_type}
use Rattle.p416_syntax.specs.Calls.{value}
use Rattle.p416_syntax.specs.Expressions.{kind_of}
use Rattle.p416_syntax.specs.Types.{takes}
use Rattle.p416_syntax.specs.Statements.{with_variable}
use Rattle.p416_syntax.specs.Breaks.{BreaksNone, program_rules}
use Rattle.p416_syntax.specs.Declarations.{layouts_of}
use Rattle.v1_core.specs.Values.{Value, a_member, no_value, to_member, with_member, member_in, with_part_at, fitted, members_from, zero_within, zero_value}
use Rattle.v1_core.specs.Frames as sem
use Rattle.v1_core.specs.Frames.{Frame, Reference, of_inner, of_variables, whole, stepped}
use Rattle.v1_core.specs.Slots.{the_variable, part_with, variable_kinds}
use Rattle.v1_core.specs.Surroundings as meaning
use Rattle.v1_core.specs.Numbered.{InScope, Numbered, number_of, part_behind}
use Rattle.v1_core.specs.Expressions.{Valued, value_of}
use Rattle.v1_core.specs.Statements.{starts, initialized}
use Rattle.v1_core.specs.Blocks.{with_value, with_initial}
use Rattle.v1_core.specs.Cells.{Cells}
use Rattle.v1_core.specs.Seats.{Form, slot_form, header_form, stack_form, struct_form, no_form, form_of, Seat, seat_behind, seat_at}
use Rattle.v1_core.specs.PackedValues.{seat_value}
use Rattle.v1_core.specs.Programs.{owner_seat, numbered16}
use Rattle.v1_core.specs.Scopes.{IsScope}
use Rattle.v1_core.proofs.Laws.{part_read}
use Rattle.v1_core.specs.Ready.{given}
use Rattle.v1_ready_forms.specs.Named.{NamedSeat, seat_of_name, seats_in}
use Rattle.v1_ready_forms.specs.Ways.{its_value}
use Rattle.v1_ready_laws.specs.Rules.{SortSeated, NamesSeated, with_inner_ones}
use Rattle.v1_ready_blocks.specs.declared.places.Range.{Range}
use Rattle.v1_ready_blocks.specs.declared.places.RangePlace.TheVariants as range_place
use Rattle.v1_ready_blocks.specs.Moments as blocks
use Rattle.v1_ready_blocks.specs.Moments.{Moment, with_cells}
use Rattle.v1_ready_blocks.specs.Places.{copied}
use Rattle.v1_ready_blocks.specs.Tests.{World, Source, Reached, Sought as Seen, source_range, with_source}
use Rattle.v1_ready_blocks.specs.Statements as ready
use Rattle.v1_ready_blocks.specs.Statements.{Deed, assign_parts, Statement, does}
use Rattle.v1_block_laws.specs.Standing.{AreOfKinds}
use Rattle.v1_block_laws.specs.Variables.{variable}
use Rattle.v1_block_laws.proofs.Apart.{body_scope}
use Rattle.v1_parser_laws.specs.Shown.{Shows}
use Rattle.v1_parser_laws.specs.Ranges.{IsRangeOf}
use Rattle.v1_place_laws.specs.Places.{range_of}
use Rattle.v1_place_laws.specs.Finding.{IsAt}
use Rattle.v1_deed_laws.specs.Forms.{IsParted}
use Rattle.v1_deed_laws.proofs.Parts.{parted_fits, parts_put}
use Rattle.v1_ready_statements.specs.Around.{Around, table_found}
use Rattle.v1_ready_statements.specs.Targets.{parts_meant}
use Rattle.v1_ready_statements.specs.Tested.{ready_source}
use Rattle.v1_ready_statements.specs.Statements.{assigns_parts, assigned_to, whole_seat, initial_ready}
use Rattle.v1_value_laws.specs.Kinds.{Fine}
use Rattle.v1_statement_laws.specs.Behind.{Shown, LeftBehind, InContext}
use Rattle.v1_statement_laws.specs.Leaves.{RunsAlike}
use Rattle.v1_statement_laws.proofs.Closing.{ticked_shown, running_is, stopped_is}
use Rattle.v1_statement_laws.proofs.Contexts.{context_declared}
use Rattle.v1_statement_laws.proofs.Starting.{range_is}
use Rattle.v1_statement_laws.proofs.Sources.{Composite}
use Rattle.v1_program_laws.specs.Reaching.{IsPart, Seeks, found, beyond, erred, ConditionsAsk}
use Rattle.v1_program_laws.proofs.Seeking.{seeks}
use Rattle.v1_program_laws.specs.SourceLaws.{AllOne, Headed}
use Rattle.v1_program_laws.proofs.Taking.{headed, headed_parted, composite_form, value_same, put_reached}

-- what a variable with parts starts with takes a value as it is
members_fit : (start : Kind → Value) (fields : List FieldKind) (v : Value) → fitted (members_from start fields) v ≡ v
members_fit start [] v = refl
members_fit start (f ∷ fields) v = refl

struct_fit : (types : List Layout) (n : ℕ) (type : Name) (v : Value) → fitted (zero_within types n (struct type)) v ≡ v
struct_fit types zero type v = refl
struct_fit types (suc n) type v = members_fit (λ k. zero_within types n k) (fields_in types type) v

zero_fits : (types : List Layout) (k : Kind) (v : Value) → Composite k → fitted (zero_value types k) v ≡ v
zero_fits types (bits width) v h = absurd h
zero_fits types unsized v h = absurd h
zero_fits types boolean v h = absurd h
zero_fits types error_code v h = absurd h
zero_fits types (header type) v h = refl
zero_fits types (stack type size) v h = refl
zero_fits types (struct type) v h = struct_fit types (length types) type v
zero_fits types packet_in v h = absurd h
zero_fits types packet_out v h = absurd h
zero_fits types errors v h = absurd h
zero_fits types (enumeration enum) v h = absurd h
zero_fits types (one_of enum) v h = absurd h
zero_fits types table v h = absurd h
zero_fits types applied v h = absurd h
zero_fits types (object obj) v h = absurd h
zero_fits types items v h = absurd h
zero_fits types nothing v h = absurd h
zero_fits types unknown v h = absurd h

-- a variable by its name

abbrev named_reference : Name → Reference
named_reference called = record { owner = of_inner; steps = to_member called ∷ []; slice = None }

same_name : (called : Name) → bytes_eq called called ≡ true
same_name called = (bytes_eq-Decides called called).1 refl

written : (called : Name) (old v rest : Value) → with_part_at (to_member called ∷ []) v (a_member called old rest) ≡ a_member called (fitted old v) rest
written called old v rest =
    ap (λ (t : Bool). cond t (a_member called (fitted (cond t old (member_in rest called)) v) rest) (a_member called old (with_member rest called (fitted (cond t old (member_in rest called)) v)))) (same_name called)

named_at : (syntax : Syntax16) (who : InScope) (called : Name) (n : ℕ) (t : Seat) → owner_seat syntax (the_variable n) ≡ Some t → IsAt syntax (with_inner_ones (variable called n ∷ []) who) (named_reference called) None t
named_at syntax who called n t there = record {
  part = part_with (the_variable n) [];
  cuts = refl;
  means = ap (λ (u : Bool). part_behind [] (cond u (Some n) (number_of who.inner called))) (same_name called);
  seat = ap (λ (o : Option Seat). seat_behind (λ s. seat_at (layouts_of syntax.decls) [] s) o) there;
}

-- a source goes to all that stands at a seat
whole_parts : (types : List Layout) (k : Kind) (t : Seat) (o : Option Source) (B : Option Deed → Type 0) → Composite k → t.form ≡ form_of k → B (assigns_parts (Some (range_place.Fixed (range_of types t))) o) → B (assigns_parts (parts_meant types (whole_seat t)) o)
whole_parts types k t o B h is g = by t.form (subst Headed (sym is) (headed k h)) g where
  by : (f : Form) → Headed f → B (assigns_parts (Some (range_place.Fixed (range_of types (record { depth = t.depth; form = f; start = t.start; owner = t.owner })))) o) → B (assigns_parts (parts_meant types (whole_seat (record { depth = t.depth; form = f; start = t.start; owner = t.owner }))) o)
  by (slot_form of) x y = absurd x
  by (header_form type) x y = y
  by (stack_form type size) x y = y
  by (struct_form type) x y = y
  by no_form x y = absurd x

at_some : {A : Type 0} (B : A → Type 0) (o : Option A) (x : A) → o ≡ Some x → IfSome o B → B x
at_some {A = A} B o x is h = subst (λ (p : Option A). IfSome p B) is h

module _ (P : Cells → Type 0) (b : Around) (w : meaning.World) (z : World) (accepted : BreaksNone b.syntax program_rules) (all_one : AllOne b.syntax) where
  abbrev seats : InScope → List NamedSeat
  seats who = seats_in b.syntax w.around.roots who

  -- which deed an initial value is
  assigned_whole : (s : Scope) (who : InScope) (k : Kind) (e : Exp16) (t : Seat) (B : Option Deed → Type 0) → Composite k → t.form ≡ form_of k → B (assigns_parts (Some (range_place.Fixed (range_of s.layouts t))) (ready_source s (seats who) (table_found b) e)) → B (assigned_to b s (seats who) (value k) e (whole_seat t))
  assigned_whole s who k e t B h is g = by t.form (subst Headed (sym is) (headed k h)) (whole_parts s.layouts k t (ready_source s (seats who) (table_found b) e) B h is g) where
    by : (f : Form) → Headed f → B (assigns_parts (parts_meant s.layouts (whole_seat (record { depth = t.depth; form = f; start = t.start; owner = t.owner }))) (ready_source s (seats who) (table_found b) e)) → B (assigned_to b s (seats who) (value k) e (whole_seat (record { depth = t.depth; form = f; start = t.start; owner = t.owner })))
    by (slot_form of) x y = absurd x
    by (header_form type) x y = y
    by (stack_form type size) x y = y
    by (struct_form type) x y = y
    by no_form x y = absurd x

  module _ (from to : ℕ) (s : Scope) (who : InScope) (n : ℕ) (t : Type16) (called : Name) (e : Exp16) (at : InContext b.syntax w.around.roots from to n s who) (are : AreOfKinds (variable_kinds b.syntax) n (kind_of_type s.names t ∷ [])) (fits : n + 1 ≤ to) where
    abbrev kind : Kind
    kind = kind_of_type s.names t

    abbrev inner : InScope
    inner = with_inner_ones (variable called n ∷ []) who

    behind_it : InContext b.syntax w.around.roots from to (n + 1) (with_variable t called s) inner
    behind_it = context_declared b.syntax w.around.roots from to n s who t called are fits at

    pub seat_is : SortSeated (a_value kind true) (owner_seat b.syntax (the_variable n))
    seat_is = subst (λ (u : Bool). SortSeated (cond u (a_value kind true) (sort_in s.names called)) (cond u (owner_seat b.syntax (the_variable n)) (seat_of_name (seats who) called))) (same_name called) (behind_it.seated called)

    -- the value that it is given
    put : (seat : Seat) (v : Value) (r : Range) (m : sem.Moment) (k : Moment) → owner_seat b.syntax (the_variable n) ≡ Some seat → Composite kind → seat.form ≡ form_of kind → IsPart b.syntax kind v k.cells r → Shows b.syntax who m k → Shows b.syntax inner (sem.declared called (fitted (starts s t) v) m) (with_cells (copied r (range_of s.layouts seat) k.cells) k)
    put seat v r m k there composite form part h =
        let x : Numbered = numbered16 b.syntax k.cells in
        let old : Value = get_or x.variables n no_value in
        let before : Shows b.syntax inner (sem.declared called old m) k = record {
          frame = ap (λ (f : Frame). record f { inner = a_member called old f.inner }) h.frame;
          whole = h.whole;
          store = h.store;
          unparsed = h.unparsed;
          emitted = h.emitted;
          work = h.work;
          stopped = h.stopped;
          hit = h.hit;
        } in
        let there_at : seat_behind (λ s. seat_at (layouts_of b.syntax.decls) [] s) (owner_seat b.syntax (the_variable n)) ≡ Some seat = ap (λ (o : Option Seat). seat_behind (λ s. seat_at (layouts_of b.syntax.decls) [] s) o) there in
        let old_is : old ≡ seat_value (layouts_of b.syntax.decls) k.cells seat = part_read b.syntax k.cells (part_with (the_variable n) []) seat h.whole.layout there_at in
        let parted : IsParted seat.form = subst IsParted (sym form) (headed_parted (form_of kind) (headed kind composite)) in
        let same : fitted old v ≡ fitted (starts s t) v =
        ap (λ (y : Value). fitted y v) old_is ∙ (parted_fits (layouts_of b.syntax.decls) k.cells seat.depth seat.form seat.start v parted ∙ sym (zero_fits s.layouts kind v composite)) in
        let form_u : part.seat.form ≡ form_of kind = composite_form (layouts_of b.syntax.decls) kind part.seat.form composite part.form in
        subst (λ (l : List Layout). Shows b.syntax inner (sem.declared called (fitted (starts s t) v) m) (with_cells (copied r (range_of l seat) k.cells) k)) (sym at.layouts)
        (subst (λ (y : Value). Shows b.syntax inner (sem.declared called y m) (with_cells (copied r (range_of (layouts_of b.syntax.decls) seat) k.cells) k)) same
        (subst (λ (y : Value). Shows b.syntax inner (record m { frame = record m.frame { inner = y } }) (with_cells (copied r (range_of (layouts_of b.syntax.decls) seat) k.cells) k)) (written called old v m.frame.inner)
        (parts_put b.syntax inner (named_reference called) seat part.part part.seat (range_of (layouts_of b.syntax.decls) seat) r v (sem.declared called old m) k accepted (body_scope (length (variable_kinds b.syntax)) from to (n + 1) inner behind_it.body) (named_at b.syntax who called n seat there) part.at parted
        (all_one (part_with (the_variable n) []) part.part seat part.seat there_at part.at (subst Headed (sym form) (headed kind composite)) (form_u ∙ sym form)) (range_is (layouts_of b.syntax.decls) seat) part.ranged part.stands before)))

    by_value : (seat : Seat) (x : Valued) (y : Reached) → owner_seat b.syntax (the_variable n) ≡ Some seat → Composite kind → seat.form ≡ form_of kind → Seeks P b.syntax who its_value kind x y → LeftBehind P b.syntax who (variable called n ∷ []) (initialized s t called x) (with_source y (λ r k. with_cells (copied r (range_of s.layouts seat) k.cells) k))
    by_value seat x y there composite form (found r u is runs asked part h) =
        let same : x.value ≡ u = let e : given x.value ≡ given u = asked in cc e in
        subst (λ (m : sem.Moment). LeftBehind P b.syntax who (variable called n ∷ []) m (with_source y (λ r k. with_cells (copied r (range_of s.layouts seat) k.cells) k))) (sym (running_is x.moment.stopped x.moment (sem.declared called (fitted (starts s t) x.value) x.moment) runs))
        (subst (λ (g : Seen). LeftBehind P b.syntax who (variable called n ∷ []) (sem.declared called (fitted (starts s t) x.value) x.moment) (with_source (record { range = g; moment = y.moment }) (λ r k. with_cells (copied r (range_of s.layouts seat) k.cells) k))) (sym is)
        (subst (λ (v : Value). LeftBehind P b.syntax who (variable called n ∷ []) (sem.declared called (fitted (starts s t) v) x.moment) (with_cells (copied r (range_of s.layouts seat) y.moment.cells) y.moment)) (sym same)
        (record {
          some = variable called n ∷ [];
          shown = record { shows = put seat u r x.moment y.moment there composite form part h.shows; waits = h.waits };
          all = λ none. refl;
        })))
    by_value seat x y there composite form (beyond is runs asked h) = absurd (cc asked)
    by_value seat x y there composite form (erred f is stops h) =
        subst (λ (m : sem.Moment). LeftBehind P b.syntax who (variable called n ∷ []) m (with_source y (λ r k. with_cells (copied r (range_of s.layouts seat) k.cells) k))) (sym (stopped_is x.moment.stopped f x.moment (sem.declared called (fitted (starts s t) x.value) x.moment) stops))
        (subst (λ (g : Seen). LeftBehind P b.syntax who (variable called n ∷ []) x.moment (with_source (record { range = g; moment = y.moment }) (λ r k. with_cells (copied r (range_of s.layouts seat) k.cells) k))) (sym is)
        (record {
          some = [];
          shown = h;
          all = λ none. absurd (cc (sym none ∙ stops));
        }))

    given_it : (seat : Seat) (source : Source) → owner_seat b.syntax (the_variable n) ≡ Some seat → Composite kind → seat.form ≡ form_of kind → ((m : sem.Moment) (k : Moment) → Shown P b.syntax who m k → m.stopped ≡ None → Seeks P b.syntax who its_value kind (value_of w s (value kind) e m) (source_range z.apply source k)) → RunsAlike P b w z s who (variable called n ∷ []) (var_is t called e) (does (assign_parts (range_place.Fixed (range_of s.layouts seat)) source))
    given_it seat source there composite form sought ran m k h runs =
        let next : Shown P b.syntax who (sem.ticked m) (blocks.ticked k) = ticked_shown P b.syntax who m k h in
        let x : Valued = value_of w s (value kind) e (sem.ticked m) in
        let d : Deed = assign_parts (range_place.Fixed (range_of s.layouts seat)) source in
        subst (λ (y : sem.Moment). LeftBehind P b.syntax who (variable called n ∷ []) y (ready.run z ran (does d) k)) (sym (running_is m.stopped m (initialized s t called x) runs))
        (subst (λ (y : Moment). LeftBehind P b.syntax who (variable called n ∷ []) (initialized s t called x) y) (sym (running_is k.stopped k (ready.done z.apply d (blocks.ticked k)) (sym h.shows.stopped ∙ runs)))
        (by_value seat x (source_range z.apply source (blocks.ticked k)) there composite form (sought (sem.ticked m) (blocks.ticked k) next runs)))

    pub parts_begin : Composite kind → takes (value kind) e (kind_of s e) ≡ true → ConditionsAsk P b w z s who e → IfSome (initial_ready b s (seats who) n kind e) (RunsAlike P b w z s who (variable called n ∷ []) (var_is t called e))
    parts_begin composite taken asks =
        let same : kind_of s e ≡ kind = value_same kind (kind_of s e) e composite taken in
        by_seat same (owner_seat b.syntax (the_variable n)) refl seat_is where
          by_source : kind_of s e ≡ kind → (seat : Seat) → owner_seat b.syntax (the_variable n) ≡ Some seat → seat.form ≡ form_of kind → (o : Option Source) → ready_source s (seats who) (table_found b) e ≡ o → IfSome (option_map does (assigns_parts (Some (range_place.Fixed (range_of s.layouts seat))) o)) (RunsAlike P b w z s who (variable called n ∷ []) (var_is t called e))
          by_source same seat there form None is = tt
          by_source same seat there form (Some source) is =
              given_it seat source there composite form
              (λ m k h runs. subst (λ (j : Kind). Seeks P b.syntax who its_value j (value_of w s (value kind) e m) (source_range z.apply source k)) same
              (at_some (λ (g : Source). Seeks P b.syntax who its_value (kind_of s e) (value_of w s (value kind) e m) (source_range z.apply g k)) (ready_source s (seats who) (table_found b) e) source is
              (seeks P b w z s who accepted at.layouts at.seated at.fine e its_value (value kind) m k asks (subst Composite (sym same) composite) h runs)))

          by_seat : kind_of s e ≡ kind → (o : Option Seat) → owner_seat b.syntax (the_variable n) ≡ o → SortSeated (a_value kind true) o → IfSome (option_map does (option_and_then (λ u. assigned_to b s (seats who) (value kind) e (whole_seat u)) o)) (RunsAlike P b w z s who (variable called n ∷ []) (var_is t called e))
          by_seat same None there h = tt
          by_seat same (Some seat) there h =
              assigned_whole s who kind e seat (λ o. IfSome (option_map does o) (RunsAlike P b w z s who (variable called n ∷ []) (var_is t called e))) composite h
              (by_source same seat there h (ready_source s (seats who) (table_found b) e) refl)

  -- a variable of the block, which has this number
  module _ (who : InScope) (scope : IsScope (length (variable_kinds b.syntax)) who) (layouts : w.around.scope.layouts ≡ layouts_of b.syntax.decls) (seated : NamesSeated w.around.scope (seats_in b.syntax w.around.roots who)) (fine : Fine w.around.scope) (v : Var) (e : Exp16) (n : ℕ) where
    abbrev its_kind : Kind
    its_kind = kind_of_type w.around.scope.names v.of

    abbrev reference : Reference
    reference = stepped (whole of_variables) (to_member v.name)

    abbrev pub Begins : Statement → Type 0
    Begins r = (ran : Option ℕ) (m : sem.Moment) (k : Moment) → Shown P b.syntax who m k → m.stopped ≡ None → Shown P b.syntax who (with_initial w m v) (ready.run z ran r k)

    block_given : (seat : Seat) (source : Source) → v.initial ≡ Some e → number_of who.variables v.name ≡ Some n → owner_seat b.syntax (the_variable n) ≡ Some seat → Composite its_kind → seat.form ≡ form_of its_kind → ((m : sem.Moment) (k : Moment) → Shown P b.syntax who m k → m.stopped ≡ None → Seeks P b.syntax who its_value its_kind (value_of w w.around.scope (value its_kind) e m) (source_range z.apply source k)) → Begins (does (assign_parts (range_place.Fixed (range_of w.around.scope.layouts seat)) source))
    block_given seat source initial numbered there composite form sought ran m k h runs =
        let next : Shown P b.syntax who (sem.ticked m) (blocks.ticked k) = ticked_shown P b.syntax who m k h in
        let x : Valued = value_of w w.around.scope (value its_kind) e (sem.ticked m) in
        let d : Deed = assign_parts (range_place.Fixed (range_of w.around.scope.layouts seat)) source in
        let at : IsAt b.syntax who reference None seat = record {
          part = part_with (the_variable n) [];
          cuts = refl;
          means = ap (λ (o : Option ℕ). part_behind [] o) numbered;
          seat = ap (λ (o : Option Seat). seat_behind (λ s. seat_at (layouts_of b.syntax.decls) [] s) o) there;
        } in
        subst (λ (o : Option Exp16). Shown P b.syntax who (with_initial w m (record { of = v.of; name = v.name; initial = o })) (ready.run z ran (does d) k)) (sym initial)
        (subst (λ (y : sem.Moment). Shown P b.syntax who y (ready.run z ran (does d) k)) (sym (running_is m.stopped m (with_value v.name x) runs))
        (subst (λ (y : Moment). Shown P b.syntax who (with_value v.name x) y) (sym (running_is k.stopped k (ready.done z.apply d (blocks.ticked k)) (sym h.shows.stopped ∙ runs)))
        (put_reached P b w z w.around.scope who accepted layouts seated fine all_one reference seat (range_of w.around.scope.layouts seat) its_kind x (source_range z.apply source (blocks.ticked k)) scope at
        (subst (λ (l : List Layout). IsRangeOf (layouts_of b.syntax.decls) seat (range_of l seat)) (sym layouts) (range_is (layouts_of b.syntax.decls) seat)) composite form (sought (sem.ticked m) (blocks.ticked k) next runs))))

    pub block_begins : v.initial ≡ Some e → number_of who.variables v.name ≡ Some n → IfSome (owner_seat b.syntax (the_variable n)) (λ t. t.form ≡ form_of its_kind) → Composite its_kind → takes (value its_kind) e (kind_of w.around.scope e) ≡ true → ConditionsAsk P b w z w.around.scope who e → IfSome (initial_ready b w.around.scope (seats who) n its_kind e) Begins
    block_begins initial numbered forms composite taken asks =
        let same : kind_of w.around.scope e ≡ its_kind = value_same its_kind (kind_of w.around.scope e) e composite taken in
        by_seat same (owner_seat b.syntax (the_variable n)) refl forms where
          by_source : kind_of w.around.scope e ≡ its_kind → (seat : Seat) → owner_seat b.syntax (the_variable n) ≡ Some seat → seat.form ≡ form_of its_kind → (o : Option Source) → ready_source w.around.scope (seats who) (table_found b) e ≡ o → IfSome (option_map does (assigns_parts (Some (range_place.Fixed (range_of w.around.scope.layouts seat))) o)) Begins
          by_source same seat there form None is = tt
          by_source same seat there form (Some source) is =
              block_given seat source initial numbered there composite form
              (λ m k h runs. subst (λ (j : Kind). Seeks P b.syntax who its_value j (value_of w w.around.scope (value its_kind) e m) (source_range z.apply source k)) same
              (at_some (λ (g : Source). Seeks P b.syntax who its_value (kind_of w.around.scope e) (value_of w w.around.scope (value its_kind) e m) (source_range z.apply g k)) (ready_source w.around.scope (seats who) (table_found b) e) source is
              (seeks P b w z w.around.scope who accepted layouts seated fine e its_value (value its_kind) m k asks (subst Composite (sym same) composite) h runs)))

          by_seat : kind_of w.around.scope e ≡ its_kind → (o : Option Seat) → owner_seat b.syntax (the_variable n) ≡ o → IfSome o (λ t. t.form ≡ form_of its_kind) → IfSome (option_map does (option_and_then (λ u. assigned_to b w.around.scope (seats who) (value its_kind) e (whole_seat u)) o)) Begins
          by_seat same None there h = tt
          by_seat same (Some seat) there h =
              assigned_whole w.around.scope who its_kind e seat (λ o. IfSome (option_map does o) Begins) composite h
              (by_source same seat there h (ready_source w.around.scope (seats who) (table_found b) e) refl)
