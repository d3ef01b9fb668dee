-- Assignments, and variables with initial values, in a parser.
use Rattle.std.proofs.Common.{◌≡◌, ℕ, ◌+◌, ◌≤◌, true, Option, Some, None, IfSome, List, [], ◌∷◌, ◌++◌, length, refl, sym, ◌∙◌, subst}
use Rattle.std.specs.Prelude.{option_map, option_and_then}
use Rattle.p416_syntax.specs.declared.parts.Type16.{Type16}
use Rattle.p416_syntax.specs.Tree.{Exp16, literal, truth, error, name, member, index, slice, call, lookahead, cast, unary, binary, choice, parenthesized, no_arguments, argument, listed, assign, var_is}
use Rattle.p416_syntax.specs.Names.{Name}
use Rattle.p416_syntax.specs.Kinds.{Kind, boolean}
use Rattle.p416_syntax.specs.Scopes.{a_value, Scope, kind_of_type}
use Rattle.p416_syntax.specs.Calls.{Place, value, target, a_stack, method_signature}
use Rattle.p416_syntax.specs.Expressions.{kind_of, can_write}
use Rattle.p416_syntax.specs.Uses.{Use, an_expression, a_number, owner_place, chosen_place, uses}
use Rattle.p416_syntax.specs.Statements.{assigned_place}
use Rattle.p416_syntax.specs.Breaks.{BreaksNone, program_rules}
use Rattle.v1_core.specs.Values.{Slice}
use Rattle.v1_core.specs.Slots.{the_variable, variable_kinds}
use Rattle.v1_core.specs.Surroundings as meaning
use Rattle.v1_core.specs.Numbered.{InScope}
use Rattle.v1_core.specs.Cells.{Cells}
use Rattle.v1_core.specs.Seats.{Content, Form, slot_form, header_form, stack_form, struct_form, no_form, form_of, Seat}
use Rattle.v1_core.specs.Programs.{owner_seat}
use Rattle.v1_ready_forms.specs.Named.{NamedSeat, seats_in}
use Rattle.v1_ready_laws.specs.Rules.{KeepsAll, Keeps, SortSeated}
use Rattle.v1_ready_blocks.specs.Tests.{World, Test}
use Rattle.v1_ready_blocks.specs.Statements.{Deed, does}
use Rattle.v1_block_laws.specs.Standing.{AreOfKinds}
use Rattle.v1_block_laws.specs.Variables.{variable}
use Rattle.v1_block_laws.proofs.Apart.{body_scope}
use Rattle.v1_block_laws.proofs.Keeping.{front, back}
use Rattle.v1_place_laws.specs.Places.{Meant, meant_by}
use Rattle.v1_ready_statements.specs.Around.{Around, table_found}
use Rattle.v1_ready_statements.specs.Targets.{parts_meant}
use Rattle.v1_ready_statements.specs.Tested.{ready_test, ready_source}
use Rattle.v1_ready_statements.specs.Statements.{assigns_parts, assigned_to, whole_seat, assignment_ready, initial_ready}
use Rattle.v1_value_laws.specs.Classes.{IsOfClass}
use Rattle.v1_value_laws.proofs.Taken.{taken}
use Rattle.v1_statement_laws.specs.Behind.{InContext}
use Rattle.v1_statement_laws.specs.Leaves.{RunsAlike}
use Rattle.v1_statement_laws.specs.Evaluating.{Evaluates}
use Rattle.v1_statement_laws.proofs.Assigned.{assigned_slot}
use Rattle.v1_statement_laws.proofs.Initials.{initial_does}
use Rattle.v1_program_laws.specs.Reaching.{Asks, ConditionsAsk}
use Rattle.v1_program_laws.proofs.Still.{Quiet, still}
use Rattle.v1_program_laws.specs.SourceLaws.{Headed}
use Rattle.v1_program_laws.proofs.Taking.{parts_go}
use Rattle.v1_program_laws.proofs.Shapes.{all_one}
use Rattle.v1_program_laws.proofs.Initializing.{seat_is, parts_begin}
use Rattle.v1_program_laws.specs.Rules.{KeptInParser}
use Rattle.v1_program_laws.proofs.Targets.{known_members, not_target, written_can, target_formed, target_chosen, headed_composite}

at_some : {A : Type 0} (B : A → Type 0) (o : Option A) (x : A) → o ≡ Some x → IfSome o B → B x
at_some {A = A} B o x is h = subst (λ (p : Option A). IfSome p B) is h

-- of all that is judged, T2 and T3
pub keeps : (s : Scope) (p : Place) (e : Exp16) → KeptInParser s p e → Keeps s p e
keeps s p e h = (h.judged.1.1.0, h.judged.1.0)

module _ (P : Cells → Type 0) (b : Around) (w : meaning.World) (z : World) (from to n : ℕ) (s : Scope) (who : InScope) (accepted : BreaksNone b.syntax program_rules) (at : InContext b.syntax w.around.roots from to n s who) (none : b.locals ≡ []) (quiet : Quiet w) (tests : (p q : Place) (e : Exp16) → Keeps s q e → IfSome (ready_test s (seats_in b.syntax w.around.roots who) (table_found b) p e) (Evaluates P b w z s who p e (IsOfClass (kind_of s e)))) where
  abbrev seats : List NamedSeat
  seats = seats_in b.syntax w.around.roots who

  -- conditions of choices
  asks_by : (c : Exp16) (o : Option Test) → IfSome o (Evaluates P b w z s who (value boolean) c (IsOfClass (kind_of s c))) → IfSome o (Asks P b w z s who c)
  asks_by c None h = tt
  asks_by c (Some t) h = record { gives = h.gives; ends = λ m k e shown runs stops. still w s quiet }

  pub conditions_ask : (e : Exp16) (p : Place) → Keeps s p e → ConditionsAsk P b w z s who e
  conditions_ask (member e word) p kept = conditions_ask e (owner_place p (method_signature (kind_of s e) word)) (back (an_expression s p (member e word) ∷ []) (uses s (owner_place p (method_signature (kind_of s e) word)) e) kept)
  conditions_ask (index e at_literal) p kept = conditions_ask e a_stack (back (an_expression s p (index e at_literal) ∷ a_number at_literal ∷ []) (uses s a_stack e) kept)
  conditions_ask (choice c a d) p kept =
      let q : Place = chosen_place p (kind_of s a) (kind_of s d) in
      let whole : List Use = an_expression s p (choice c a d) ∷ [] in
      let first : KeepsAll ((whole ++ uses s (value boolean) c) ++ uses s q a) = front ((whole ++ uses s (value boolean) c) ++ uses s q a) (uses s q d) kept in (
        asks_by c (ready_test s seats (table_found b) (value boolean) c) (tests (value boolean) (value boolean) c (back whole (uses s (value boolean) c) (front (whole ++ uses s (value boolean) c) (uses s q a) first))),
        conditions_ask a q (back (whole ++ uses s (value boolean) c) (uses s q a) first),
        conditions_ask d q (back ((whole ++ uses s (value boolean) c) ++ uses s q a) (uses s q d) kept),
      )
  conditions_ask (literal n) p kept = tt
  conditions_ask (truth holds) p kept = tt
  conditions_ask error p kept = tt
  conditions_ask (name text) p kept = tt
  conditions_ask (slice e high low) p kept = tt
  conditions_ask (call e given) p kept = tt
  conditions_ask (lookahead e to given) p kept = tt
  conditions_ask (cast to e) p kept = tt
  conditions_ask (unary operator e) p kept = tt
  conditions_ask (binary operator a d) p kept = tt
  conditions_ask (parenthesized e) p kept = tt
  conditions_ask no_arguments p kept = tt
  conditions_ask (argument before last) p kept = tt
  conditions_ask (listed es) p kept = tt

  -- an assignment
  pub assigns : (e f : Exp16) → KeptInParser s target e → KeptInParser s (assigned_place (kind_of s e)) f → IfSome (assignment_ready b s seats e f) (RunsAlike P b w z s who [] (assign e f))
  assigns e f kept given = by_meant (meant_by s seats e) refl where
    can : can_write s e ≡ true
    can = written_can s e kept.judged.1.1.1.1.0

    Alike : Deed → Type 0
    Alike d = RunsAlike P b w z s who [] (assign e f) (does d)

    each : (o : Option Deed) → IfSome o Alike → IfSome (option_map does o) (RunsAlike P b w z s who [] (assign e f))
    each None h = tt
    each (Some d) h = h

    headed_to : (x : Meant) (form : Form) → x.spot.seat.form ≡ form → Headed form → IfSome (assigns_parts (parts_meant s.layouts x) (ready_source s seats (table_found b) f)) Alike → IfSome (assigned_to b s seats (assigned_place (kind_of s e)) f x) Alike
    headed_to x form is heads g = by x.spot.seat.form (subst Headed (sym is) heads) g where
      by : (k : Form) → Headed k → IfSome (assigns_parts (parts_meant s.layouts (record { spot = record { seat = record { depth = x.spot.seat.depth; form = k; start = x.spot.seat.start; owner = x.spot.seat.owner }; told = x.spot.told }; slice = x.slice })) (ready_source s seats (table_found b) f)) Alike → IfSome (assigned_to b s seats (assigned_place (kind_of s e)) f (record { spot = record { seat = record { depth = x.spot.seat.depth; form = k; start = x.spot.seat.start; owner = x.spot.seat.owner }; told = x.spot.told }; slice = x.slice })) Alike
      by (slot_form of) h g = absurd h
      by (header_form type) h g = g
      by (stack_form type size) h g = g
      by (struct_form type) h g = g
      by no_form h g = absurd h

    nothing_to : (x : Meant) → IfSome (assigned_to b s seats (assigned_place (kind_of s e)) f (record { spot = record { seat = record { depth = x.spot.seat.depth; form = no_form; start = x.spot.seat.start; owner = x.spot.seat.owner }; told = x.spot.told }; slice = x.slice })) Alike
    nothing_to x = by x.slice where
      by : (cut : Option Slice) → IfSome (assigned_to b s seats (assigned_place (kind_of s e)) f (record { spot = record { seat = record { depth = x.spot.seat.depth; form = no_form; start = x.spot.seat.start; owner = x.spot.seat.owner }; told = x.spot.told }; slice = cut })) Alike
      by (Some c) = tt
      by None = tt

    parts : (x : Meant) → meant_by s seats e ≡ Some x → (form : Form) → x.spot.seat.form ≡ form → Headed form → IfSome (assigns_parts (parts_meant s.layouts x) (ready_source s seats (table_found b) f)) Alike
    parts x means form is heads = by x.slice refl where
      by : (cut : Option Slice) → x.slice ≡ cut → IfSome (assigns_parts (parts_meant s.layouts x) (ready_source s seats (table_found b) f)) Alike
      by (Some c) cuts = subst (λ (o : Option Slice). IfSome (assigns_parts (parts_meant s.layouts (record { spot = x.spot; slice = o })) (ready_source s seats (table_found b) f)) Alike) (sym cuts) tt
      by None whole =
          let formed : x.spot.seat.form ≡ form_of (kind_of s e) =
          at_some (λ (y : Meant). y.slice ≡ None → y.spot.seat.form ≡ form_of (kind_of s e)) (meant_by s seats e) x means
          (target_formed s seats at.fine at.seated e can (known_members s seats at.fine at.seated e target not_target kept.judged.0)) whole in
          parts_go P b w z s who accepted at.layouts at.seated at.fine (all_one b.syntax accepted) e f x (body_scope (length (variable_kinds b.syntax)) from to n who at.body) (λ c never. still w s quiet)
          (headed_composite (kind_of s e) (subst Headed (sym is ∙ formed) heads)) (taken s (assigned_place (kind_of s e)) f (keeps s (assigned_place (kind_of s e)) f given).0) (conditions_ask f (assigned_place (kind_of s e)) (keeps s (assigned_place (kind_of s e)) f given)) means

    one_of_content : (x : Meant) (of : Content) → meant_by s seats e ≡ Some x → x.spot.seat.form ≡ slot_form of → IfSome (assigned_to b s seats (assigned_place (kind_of s e)) f x) Alike
    one_of_content x of means form =
        assigned_slot P b w z s who accepted at.layouts at.seated at.fine (body_scope (length (variable_kinds b.syntax)) from to n who at.body) e f x of
        (target_chosen s seats at.fine at.seated e x of can kept.judged.0 kept.judged.1.1.0 kept.judged.1.0 means form) (keeps s (assigned_place (kind_of s e)) f given) means form
        (tests (assigned_place (kind_of s e)) (assigned_place (kind_of s e)) f (keeps s (assigned_place (kind_of s e)) f given))

    by_form : (x : Meant) → meant_by s seats e ≡ Some x → (form : Form) → x.spot.seat.form ≡ form → IfSome (assigned_to b s seats (assigned_place (kind_of s e)) f x) Alike
    by_form x means (slot_form of) is = one_of_content x of means is
    by_form x means (header_form type) is = headed_to x (header_form type) is tt (parts x means (header_form type) is tt)
    by_form x means (stack_form type size) is = headed_to x (stack_form type size) is tt (parts x means (stack_form type size) is tt)
    by_form x means (struct_form type) is = headed_to x (struct_form type) is tt (parts x means (struct_form type) is tt)
    by_form x means no_form is = subst (λ (form : Form). IfSome (assigned_to b s seats (assigned_place (kind_of s e)) f (record { spot = record { seat = record { depth = x.spot.seat.depth; form = form; start = x.spot.seat.start; owner = x.spot.seat.owner }; told = x.spot.told }; slice = x.slice })) Alike) (sym is) (nothing_to x)

    by_meant : (o : Option Meant) → meant_by s seats e ≡ o → IfSome (option_map does (option_and_then (assigned_to b s seats (assigned_place (kind_of s e)) f) o)) (RunsAlike P b w z s who [] (assign e f))
    by_meant None means = tt
    by_meant (Some x) means = each (assigned_to b s seats (assigned_place (kind_of s e)) f x) (by_form x means x.spot.seat.form refl)

  -- a variable with an initial value
  pub initials : (t : Type16) (called : Name) (e : Exp16) → AreOfKinds (variable_kinds b.syntax) n (kind_of_type s.names t ∷ []) → n + 1 ≤ to → KeptInParser s (value (kind_of_type s.names t)) e → IfSome (initial_ready b s seats n (kind_of_type s.names t) e) (RunsAlike P b w z s who (variable called n ∷ []) (var_is t called e))
  initials t called e are fits kept = by (form_of kind) refl where
    kind : Kind
    kind = kind_of_type s.names t

    kept_it : Keeps s (value (kind_of_type s.names t)) e
    kept_it = keeps s (value (kind_of_type s.names t)) e kept

    whole : Headed (form_of (kind_of_type s.names t)) → IfSome (initial_ready b s seats n (kind_of_type s.names t) e) (RunsAlike P b w z s who (variable called n ∷ []) (var_is t called e))
    whole heads =
        parts_begin P b w z accepted (all_one b.syntax accepted) from to s who n t called e at are fits (headed_composite (kind_of_type s.names t) heads)
        (taken s (value (kind_of_type s.names t)) e kept_it.0) (conditions_ask e (value (kind_of_type s.names t)) kept_it)

    nothing_at : (o : Option Seat) → SortSeated (a_value (kind_of_type s.names t) true) o → form_of (kind_of_type s.names t) ≡ no_form → IfSome (option_map does (option_and_then (λ u. assigned_to b s seats (value (kind_of_type s.names t)) e (whole_seat u)) o)) (RunsAlike P b w z s who (variable called n ∷ []) (var_is t called e))
    nothing_at None h is = tt
    nothing_at (Some seat) h is = subst (λ (form : Form). IfSome (option_map does (assigned_to b s seats (value (kind_of_type s.names t)) e (whole_seat (record { depth = seat.depth; form = form; start = seat.start; owner = seat.owner })))) (RunsAlike P b w z s who (variable called n ∷ []) (var_is t called e))) (sym (h ∙ is)) tt

    by : (form : Form) → form_of (kind_of_type s.names t) ≡ form → IfSome (initial_ready b s seats n (kind_of_type s.names t) e) (RunsAlike P b w z s who (variable called n ∷ []) (var_is t called e))
    by (slot_form of) is =
        initial_does P b w z from to accepted s who n t called e at are fits of is kept_it
        (tests (value (kind_of_type s.names t)) (value (kind_of_type s.names t)) e kept_it)
    by (header_form type) is = whole (subst Headed (sym is) tt)
    by (stack_form type size) is = whole (subst Headed (sym is) tt)
    by (struct_form type) is = whole (subst Headed (sym is) tt)
    by no_form is = nothing_at (owner_seat b.syntax (the_variable n)) (seat_is P b w z accepted (all_one b.syntax accepted) from to s who n t called e at are fits) is
