-- The initial values of the variables of a block, in order.
use Rattle.std.proofs.Common.{◌≡◌, ℕ, zero, suc, ◌+◌, Bool, false, cond, is_some, Option, Some, None, IfSome, List, [], ◌∷◌, ◌++◌, length, map, get_or, refl, sym, ap, ◌∙◌, subst}
use Rattle.std.specs.Prelude.{option_map, option_and_then, filter_map, fold}
use Rattle.std.specs.List.{list_any}
use Rattle.std.specs.Str.{bytes_eq}
use Rattle.std.proofs.lemmas.Slice.Eq.{bytes_eq-Decides}
use Rattle.p416_syntax.specs.declared.parsers.Var.{Var}
use Rattle.p416_syntax.specs.declared.controls.Local.{Local}
use Rattle.p416_syntax.specs.declared.controls.Local.TheVariants as local
use Rattle.p416_syntax.specs.Tree.{Exp16}
use Rattle.p416_syntax.specs.Names.{has_name, repeats}
use Rattle.p416_syntax.specs.Kinds.{Kind, unknown}
use Rattle.p416_syntax.specs.Scopes.{Layout as TypeLayout, Scope, kind_of_type}
use Rattle.p416_syntax.specs.Calls.{Place, value}
use Rattle.p416_syntax.specs.Declarations.{layouts_of}
use Rattle.p416_syntax.specs.Expressions.{kind_of}
use Rattle.p416_syntax.specs.Breaks.{BreaksNone, program_rules}
use Rattle.v1_core.specs.declared.parser_error.ParserError.{ParserError}
use Rattle.v1_core.specs.Frames as sem
use Rattle.v1_core.specs.Slots.{the_variable, variable_kinds, local_kinds}
use Rattle.v1_core.specs.Surroundings as meaning
use Rattle.v1_core.specs.Numbered.{Variable, InScope, number_of}
use Rattle.v1_core.specs.Blocks.{with_initial, var_in}
use Rattle.v1_core.specs.Cells.{Cells}
use Rattle.v1_core.specs.Seats.{Form, slot_form, header_form, stack_form, struct_form, no_form, form_of, Start, behind, Seat}
use Rattle.v1_core.specs.Programs.{frame_kinds, first_start, seat_in, owner_seat}
use Rattle.v1_ready_forms.specs.Named.{NamedSeat, seats_in}
use Rattle.v1_ready_laws.specs.Rules.{Keeps}
use Rattle.v1_ready_blocks.specs.Moments.{Moment}
use Rattle.v1_ready_blocks.specs.Tests.{World}
use Rattle.v1_ready_blocks.specs.Statements as ready
use Rattle.v1_ready_blocks.specs.Statements.{Deed, Statement, does}
use Rattle.v1_block_laws.specs.Standing.{IsOfKind}
use Rattle.v1_block_laws.specs.Variables.{variable, vars_from}
use Rattle.v1_block_laws.proofs.Apart.{body_scope}
use Rattle.v1_block_laws.proofs.Tests.{first_false, second_false}
use Rattle.v1_ready_statements.specs.Around.{Around, table_found, variable_seat}
use Rattle.v1_ready_statements.specs.Tested.{ready_test}
use Rattle.v1_ready_statements.specs.Statements.{assigned_to, whole_seat, initial_ready}
use Rattle.v1_ready_statements.specs.Blocks.{initial_of, joined, initials_from}
use Rattle.v1_value_laws.specs.Classes.{IsOfClass}
use Rattle.v1_value_laws.proofs.Taken.{taken}
use Rattle.v1_statement_laws.specs.Behind.{Shown, InContext}
use Rattle.v1_statement_laws.specs.Laws.{all_run}
use Rattle.v1_statement_laws.specs.Evaluating.{Evaluates}
use Rattle.v1_statement_laws.proofs.Begun.{begins}
use Rattle.v1_program_laws.proofs.Still.{Quiet}
use Rattle.v1_program_laws.specs.SourceLaws.{Headed}
use Rattle.v1_program_laws.proofs.Shapes.{all_one}
use Rattle.v1_program_laws.proofs.Initializing.{block_begins}
use Rattle.v1_program_laws.specs.Rules.{KeptInParser}
use Rattle.v1_program_laws.proofs.Targets.{headed_composite}
use Rattle.v1_program_laws.proofs.Assigns.{keeps, conditions_ask}
use Rattle.v1_program_laws.proofs.Kept.{VarMeets}

-- the seat of a variable is of the form of its kind

kinds_formed : (types : List TypeLayout) (kinds : List Kind) (a : Start) (number : ℕ) → IfSome (seat_in types kinds a number) (λ t. t.form ≡ form_of (get_or kinds number unknown))
kinds_formed types [] a number = tt
kinds_formed types (k ∷ kinds) a zero = refl
kinds_formed types (k ∷ kinds) a (suc number) = kinds_formed types kinds (behind types (length types) (form_of k) a) number

module _ (b : Around) where
  pub variable_formed : (n : ℕ) (k : Kind) → IsOfKind (variable_kinds b.syntax) n k → IfSome (owner_seat b.syntax (the_variable n)) (λ t. t.form ≡ form_of k)
  variable_formed n k is = subst (λ (j : Kind). IfSome (owner_seat b.syntax (the_variable n)) (λ t. t.form ≡ form_of j)) is.kind (kinds_formed (layouts_of b.syntax.decls) (frame_kinds b.syntax) first_start (suc (suc (suc n))))

-- each of these variables has its number by its name

abbrev pub Numbered : List Variable → ℕ → List Var → Type 0
Numbered all n [] = Unit {0}
Numbered all n (v ∷ vars) = (number_of all v.name ≡ Some n) × Numbered all (suc n) vars

behind_other : (x : Variable) (all : List Variable) (n : ℕ) (vars : List Var) → list_any (bytes_eq x.called) (map (λ (v : Var). v.name) vars) ≡ false → Numbered all n vars → Numbered (x ∷ all) n vars
behind_other x all n [] other h = tt
behind_other x all n (v ∷ vars) other h = (
  ap (λ (t : Bool). cond t (Some x.number) (number_of all v.name)) (first_false (bytes_eq x.called v.name) (list_any (bytes_eq x.called) (map (λ (v : Var). v.name) vars)) other) ∙ h.0,
  behind_other x all (suc n) vars (second_false (bytes_eq x.called v.name) (list_any (bytes_eq x.called) (map (λ (v : Var). v.name) vars)) other) h.1,
)

pub numbered : (n : ℕ) (vars : List Var) → repeats (map (λ (v : Var). v.name) vars) ≡ false → Numbered (vars_from n vars) n vars
numbered n [] once = tt
numbered n (v ∷ vars) once = (
  ap (λ (t : Bool). cond t (Some n) (number_of (vars_from (suc n) vars) v.name)) ((bytes_eq-Decides v.name v.name).1 refl),
  behind_other (variable v.name n) (vars_from (suc n) vars) (suc n) vars (first_false (has_name (map (λ (v : Var). v.name) vars) v.name) (repeats (map (λ (v : Var). v.name) vars)) once)
      (numbered (suc n) vars (second_false (has_name (map (λ (v : Var). v.name) vars) v.name) (repeats (map (λ (v : Var). v.name) vars)) once)),
)

-- statements one after another

pub all_on : (z : World) (xs ys : List Statement) (k : Moment) → all_run z (xs ++ ys) k ≡ all_run z ys (all_run z xs k)
all_on z [] ys k = refl
all_on z (x ∷ xs) ys k = all_on z xs ys (ready.run z None x k)

when_stopped : {A : Type 0} (o : Option ParserError) (e : ParserError) (x y : A) → o ≡ Some e → cond (is_some o) x y ≡ x
when_stopped o e x y is = ap (λ (p : Option ParserError). cond (is_some p) x y) is

module _ (P : Cells → Type 0) (b : Around) (w : meaning.World) (z : World) (who : InScope) where
  abbrev s : Scope
  s = w.around.scope

  abbrev seats : List NamedSeat
  seats = seats_in b.syntax w.around.roots who

  -- what its initial value does
  abbrev pub Begun : Var → List Statement → Type 0
  Begun v rs = (m : sem.Moment) (k : Moment) → Shown P b.syntax who m k → Shown P b.syntax who (with_initial w m v) (all_run z rs k)

  abbrev pub EachBegun : ℕ → List Local → Type 0
  EachBegun n [] = Unit {0}
  EachBegun n (local.Var v ∷ locals) = IfSome (initial_of b s seats n v v.initial) (Begun v) × EachBegun (suc n) locals
  EachBegun n (local.Instance notes i ∷ locals) = EachBegun (n + length (local_kinds s (local.Instance notes i))) locals
  EachBegun n (local.Action a ∷ locals) = EachBegun (n + length (local_kinds s (local.Action a))) locals
  EachBegun n (local.Table t ∷ locals) = EachBegun (n + length (local_kinds s (local.Table t))) locals

  abbrev pub AllBegun : List Local → List Statement → Type 0
  AllBegun locals rs = (m : sem.Moment) (k : Moment) → Shown P b.syntax who m k → Shown P b.syntax who (fold (with_initial w) m (filter_map var_in locals)) (all_run z rs k)

  both_begun : (v : Var) (locals : List Local) (o p : Option (List Statement)) → IfSome o (Begun v) → IfSome p (AllBegun locals) → IfSome (joined o p) (AllBegun (local.Var v ∷ locals))
  both_begun v locals None None f g = tt
  both_begun v locals None (Some ys) f g = tt
  both_begun v locals (Some xs) None f g = tt
  both_begun v locals (Some xs) (Some ys) f g = λ m k h.
      subst (λ (j : Moment). Shown P b.syntax who (fold (with_initial w) (with_initial w m v) (filter_map var_in locals)) j) (sym (all_on z xs ys k))
      (g (with_initial w m v) (all_run z xs k) (f m k h))

  pub all_begun : (locals : List Local) (n : ℕ) → EachBegun n locals → IfSome (initials_from b s seats n locals) (AllBegun locals)
  all_begun [] n each = λ m k h. h
  all_begun (local.Var v ∷ locals) n each = both_begun v locals (initial_of b s seats n v v.initial) (initials_from b s seats (suc n) locals) each.0 (all_begun locals (suc n) each.1)
  all_begun (local.Instance notes i ∷ locals) n each = all_begun locals (n + length (local_kinds s (local.Instance notes i))) each
  all_begun (local.Action a ∷ locals) n each = all_begun locals (n + length (local_kinds s (local.Action a))) each
  all_begun (local.Table t ∷ locals) n each = all_begun locals (n + length (local_kinds s (local.Table t))) each

  -- also where an error stopped that
  abbrev Begins : Var → Statement → Type 0
  Begins v r = (ran : Option ℕ) (m : sem.Moment) (k : Moment) → Shown P b.syntax who m k → m.stopped ≡ None → Shown P b.syntax who (with_initial w m v) (ready.run z ran r k)

  always : (v : Var) (e : Exp16) (d : Deed) → v.initial ≡ Some e → Begins v (does d) → Begun v (does d ∷ [])
  always v e d initial f m k h = by m.stopped refl where
    by : (o : Option ParserError) → m.stopped ≡ o → Shown P b.syntax who (with_initial w m v) (ready.run z None (does d) k)
    by None runs = f None m k h runs
    by (Some error) stops =
        subst (λ (o : Option Exp16). Shown P b.syntax who (with_initial w m (record { of = v.of; name = v.name; initial = o })) (ready.run z None (does d) k)) (sym initial)
        (subst (λ (y : sem.Moment). Shown P b.syntax who y (ready.run z None (does d) k)) (sym (when_stopped m.stopped error m _ stops))
        (subst (λ (j : Moment). Shown P b.syntax who m j) (sym (when_stopped k.stopped error k _ (sym h.shows.stopped ∙ stops))) h))

  always_deed : (v : Var) (e : Exp16) (o : Option Deed) → v.initial ≡ Some e → IfSome (option_map does o) (Begins v) → IfSome (option_map (λ x. x ∷ []) (option_map does o)) (Begun v)
  always_deed v e None initial h = tt
  always_deed v e (Some d) initial h = always v e d initial h

  -- a variable without one
  none_begins : (v : Var) → v.initial ≡ None → Begun v []
  none_begins v initial m k h = subst (λ (o : Option Exp16). Shown P b.syntax who (with_initial w m (record { of = v.of; name = v.name; initial = o })) k) (sym initial) h

  module _ (from to next : ℕ) (accepted : BreaksNone b.syntax program_rules) (at : InContext b.syntax w.around.roots from to next w.around.scope who) (none : b.locals ≡ []) (quiet : Quiet w) (tests : (p q : Place) (e : Exp16) → Keeps w.around.scope q e → IfSome (ready_test w.around.scope (seats_in b.syntax w.around.roots who) (table_found b) p e) (Evaluates P b w z w.around.scope who p e (IsOfClass (kind_of w.around.scope e)))) where
    one_begins : (v : Var) (n : ℕ) (e : Exp16) → v.initial ≡ Some e → KeptInParser s (value (kind_of_type s.names v.of)) e → number_of who.variables v.name ≡ Some n → IsOfKind (variable_kinds b.syntax) n (kind_of_type s.names v.of) → IfSome (initial_ready b s seats n (kind_of_type s.names v.of) e) (Begins v)
    one_begins v n e initial kept named is = by (form_of kind) refl where
      kind : Kind
      kind = kind_of_type w.around.scope.names v.of

      kept_it : Keeps w.around.scope (value (kind_of_type w.around.scope.names v.of)) e
      kept_it = keeps w.around.scope (value (kind_of_type w.around.scope.names v.of)) e kept

      formed : IfSome (owner_seat b.syntax (the_variable n)) (λ t. t.form ≡ form_of (kind_of_type w.around.scope.names v.of))
      formed = variable_formed b n (kind_of_type w.around.scope.names v.of) is

      whole : Headed (form_of (kind_of_type w.around.scope.names v.of)) → IfSome (initial_ready b s seats n (kind_of_type w.around.scope.names v.of) e) (Begins v)
      whole heads =
          block_begins P b w z accepted (all_one b.syntax accepted) who (body_scope (length (variable_kinds b.syntax)) from to next who at.body) at.layouts at.seated at.fine v e n initial named formed (headed_composite (kind_of_type w.around.scope.names v.of) heads)
          (taken w.around.scope (value (kind_of_type w.around.scope.names v.of)) e kept_it.0) (conditions_ask P b w z from to next w.around.scope who accepted at none quiet tests e (value (kind_of_type w.around.scope.names v.of)) kept_it)

      nothing_at : (o : Option Seat) → IfSome o (λ t. t.form ≡ form_of (kind_of_type w.around.scope.names v.of)) → form_of (kind_of_type w.around.scope.names v.of) ≡ no_form → IfSome (option_map does (option_and_then (λ u. assigned_to b s seats (value (kind_of_type w.around.scope.names v.of)) e (whole_seat u)) o)) (Begins v)
      nothing_at None h is_none = tt
      nothing_at (Some seat) h is_none = subst (λ (form : Form). IfSome (option_map does (assigned_to b s seats (value (kind_of_type w.around.scope.names v.of)) e (whole_seat (record { depth = seat.depth; form = form; start = seat.start; owner = seat.owner })))) (Begins v)) (sym (h ∙ is_none)) tt

      by : (form : Form) → form_of (kind_of_type w.around.scope.names v.of) ≡ form → IfSome (initial_ready b s seats n (kind_of_type w.around.scope.names v.of) e) (Begins v)
      by (slot_form of) single =
          begins P b w z who accepted (body_scope (length (variable_kinds b.syntax)) from to next who at.body) v e n of initial named
          (slots (owner_seat b.syntax (the_variable n)) formed) single kept_it (tests (value (kind_of_type w.around.scope.names v.of)) (value (kind_of_type w.around.scope.names v.of)) e kept_it) where
            slots : (o : Option Seat) → IfSome o (λ t. t.form ≡ form_of (kind_of_type w.around.scope.names v.of)) → IfSome o (λ t. t.form ≡ slot_form of)
            slots None h = tt
            slots (Some t) h = h ∙ single
      by (header_form type) single = whole (subst Headed (sym single) tt)
      by (stack_form type size) single = whole (subst Headed (sym single) tt)
      by (struct_form type) single = whole (subst Headed (sym single) tt)
      by no_form single = nothing_at (owner_seat b.syntax (the_variable n)) formed single

    pub var_begins : (v : Var) (n : ℕ) → VarMeets s v → number_of who.variables v.name ≡ Some n → IsOfKind (variable_kinds b.syntax) n (kind_of_type s.names v.of) → IfSome (initial_of b s seats n v v.initial) (Begun v)
    var_begins v n meets named is = by v.initial refl meets where
      by : (o : Option Exp16) → v.initial ≡ o → IfSome o (λ e. KeptInParser w.around.scope (value (kind_of_type w.around.scope.names v.of)) e) → IfSome (initial_of b s seats n v o) (Begun v)
      by None initial kept = none_begins v initial
      by (Some e) initial kept =
          always_deed v e (option_and_then (λ u. assigned_to b s seats (value (kind_of_type w.around.scope.names v.of)) e (whole_seat u)) (variable_seat b n)) initial
          (one_begins v n e initial kept named is)
