-- An assignment of a single value to what no stack tells.
use Rattle.std.proofs.Common.{◌≡◌, true, Option, Some, None, IfSome, List, [], length, refl, sym, ◌∙◌, subst}
use Rattle.std.specs.Prelude.{option_map}
use Rattle.p416_syntax.specs.Tree.{Exp16, assign}
use Rattle.p416_syntax.specs.Scopes.{Scope}
use Rattle.p416_syntax.specs.Calls.{Place}
use Rattle.p416_syntax.specs.Expressions.{kind_of, is_chosen}
use Rattle.p416_syntax.specs.Statements.{assigned_place}
use Rattle.p416_syntax.specs.Types.{takes}
use Rattle.p416_syntax.specs.Breaks.{BreaksNone, program_rules}
use Rattle.p416_syntax.specs.Declarations.{layouts_of}
use Rattle.v1_core.specs.Frames as sem
use Rattle.v1_core.specs.Frames.{put_at}
use Rattle.v1_core.specs.Slots.{variable_kinds}
use Rattle.v1_core.specs.Surroundings as meaning
use Rattle.v1_core.specs.Numbered.{InScope}
use Rattle.v1_core.specs.Expressions.{Referred, reference_of, value_of}
use Rattle.v1_core.specs.Statements.{assigned}
use Rattle.v1_core.specs.Cells.{Cells}
use Rattle.v1_core.specs.Seats.{Content, Form, slot_form}
use Rattle.v1_core.specs.Scopes.{IsScope}
use Rattle.v1_ready_forms.specs.Named.{NamedSeat, seats_in}
use Rattle.v1_ready_laws.specs.Rules.{Keeps, NamesSeated}
use Rattle.v1_ready_forms.specs.Spots.{Told}
use Rattle.v1_ready_blocks.specs.declared.places.SlotPlace.TheVariants as slot_place
use Rattle.v1_ready_blocks.specs.Moments as blocks
use Rattle.v1_ready_blocks.specs.Moments.{Moment, with_cells}
use Rattle.v1_ready_blocks.specs.Places.{put_value}
use Rattle.v1_ready_blocks.specs.Tests.{World, Test, test_value, with_test}
use Rattle.v1_ready_blocks.specs.Statements as ready
use Rattle.v1_ready_blocks.specs.Statements.{assign as assign_deed, does}
use Rattle.v1_place_laws.specs.Places.{Meant, meant_by}
use Rattle.v1_place_laws.specs.Finding.{FoundAt, IsFound, seat_now}
use Rattle.v1_place_laws.proofs.Finding.{places_found}
use Rattle.v1_ready_statements.specs.Around.{Around, table_found}
use Rattle.v1_ready_statements.specs.Targets.{ready_slice}
use Rattle.v1_ready_statements.specs.Tested.{ready_test}
use Rattle.v1_ready_statements.specs.Statements.{assigns, assigned_to}
use Rattle.v1_value_laws.specs.Kinds.{Fine}
use Rattle.v1_value_laws.specs.Classes.{IsOfClass}
use Rattle.v1_value_laws.proofs.Taken.{taken}
use Rattle.v1_statement_laws.specs.Behind.{Shown}
use Rattle.v1_statement_laws.specs.Leaves.{RunsAlike}
use Rattle.v1_statement_laws.proofs.Closing.{ticked_shown, running_is}
use Rattle.v1_statement_laws.proofs.Assigning.{value_put}
use Rattle.v1_statement_laws.proofs.Fitting.{fits_target}
use Rattle.v1_program_laws.specs.Giving.{Gives}

at_some : {A : Type 0} (B : A → Type 0) (o : Option A) (x : A) → o ≡ Some x → IfSome o B → B x
at_some {A = A} B o x is h = subst (λ (p : Option A). IfSome p B) is h

module _ (P : Cells → Type 0) (b : Around) (w : meaning.World) (z : World) (s : Scope) (who : InScope) (accepted : BreaksNone b.syntax program_rules) (layouts : s.layouts ≡ layouts_of b.syntax.decls) (seated : NamesSeated s (seats_in b.syntax w.around.roots who)) (fine : Fine s) (scope : IsScope (length (variable_kinds b.syntax)) who) where
  abbrev seats : List NamedSeat
  seats = seats_in b.syntax w.around.roots who

  abbrev place : Exp16 → Place
  place target = assigned_place (kind_of s target)

  slot_goes : (target e : Exp16) (x : Meant) (of : Content) (t : Test) → is_chosen (kind_of s target) ≡ true → takes (place target) e (kind_of s e) ≡ true → meant_by s seats target ≡ Some x → x.spot.seat.form ≡ slot_form of → x.spot.told ≡ None → Gives P b w z s who (place target) e (IsOfClass (kind_of s e)) t → RunsAlike P b w z s who [] (assign target e) (does (assign_deed (slot_place.Fixed x.spot.seat.start.slot) (option_map ready_slice x.slice) t))
  slot_goes target e x of t chosen taking means form untold gives_it ran m k h runs =
      let next : Shown P b.syntax who (sem.ticked m) (blocks.ticked k) = ticked_shown P b.syntax who m k h in
      let r : Referred = reference_of w.around s target (sem.ticked m) in
      let found : FoundAt b.syntax who x.slice (reference_of w.around s target (sem.ticked m)) (sem.ticked m) (seat_now (blocks.ticked k).cells x.spot) =
      at_some (λ (y : Meant). IsFound b.syntax who (blocks.ticked k).cells y (reference_of w.around s target (sem.ticked m)) (sem.ticked m)) (meant_by s seats target) x means
      (places_found b.syntax (blocks.ticked k).cells w.around s who (sem.ticked m) target accepted next.shows.whole layouts next.shows.frame runs) in
      let at : FoundAt b.syntax who x.slice (reference_of w.around s target (sem.ticked m)) (sem.ticked m) (Some x.spot.seat) =
      subst (λ (o : Option Told). FoundAt b.syntax who x.slice (reference_of w.around s target (sem.ticked m)) (sem.ticked m) (seat_now (blocks.ticked k).cells (record { seat = x.spot.seat; told = o }))) untold found in
      record {
        some = [];
        shown =
            subst (λ (y : sem.Moment). Shown P b.syntax who y (ready.run z ran (does (assign_deed (slot_place.Fixed x.spot.seat.start.slot) (option_map ready_slice x.slice) t)) k)) (sym (running_is m.stopped m (assigned w s target e (sem.ticked m)) runs))
            (subst (λ (y : Moment). Shown P b.syntax who (assigned w s target e (sem.ticked m)) y) (sym (running_is k.stopped k (ready.done z.apply (assign_deed (slot_place.Fixed x.spot.seat.start.slot) (option_map ready_slice x.slice) t) (blocks.ticked k)) (sym h.shows.stopped ∙ runs)))
            (subst (λ (n : sem.Moment). Shown P b.syntax who (sem.going_on (put_at r.reference (value_of w s (place target) e n).value) (value_of w s (place target) e n).moment) (with_test (test_value z.apply t (blocks.ticked k)) (λ v j. with_cells (put_value x.spot.seat.start.slot (option_map ready_slice x.slice) v j.cells) j))) (sym at.0)
            (value_put P b w z s who accepted scope r.reference x.slice x.spot.seat of (value_of w s (place target) e (sem.ticked m)) (test_value z.apply t (blocks.ticked k)) at.1 form
            (λ ends. fits_target s seats target e x of (kind_of s e) _ fine seated chosen means form taking (gives_it.holds (sem.ticked m) (blocks.ticked k) next runs ends))
            (gives_it.gives (sem.ticked m) (blocks.ticked k) next runs))));
        all = λ none. refl;
      }

  -- the deed of it
  pub slot_assigned : (target e : Exp16) (x : Meant) (of : Content) → is_chosen (kind_of s target) ≡ true → Keeps s (place target) e → meant_by s seats target ≡ Some x → x.spot.seat.form ≡ slot_form of → x.spot.told ≡ None → IfSome (ready_test s seats (table_found b) (place target) e) (Gives P b w z s who (place target) e (IsOfClass (kind_of s e))) → IfSome (assigned_to b s seats (place target) e x) (λ d. RunsAlike P b w z s who [] (assign target e) (does d))
  slot_assigned target e x of chosen keeps means form untold tests =
      subst (λ (f : Form). IfSome (assigned_to b s seats (place target) e (record { spot = record { seat = record { depth = x.spot.seat.depth; form = f; start = x.spot.seat.start; owner = x.spot.seat.owner }; told = x.spot.told }; slice = x.slice })) (λ d. RunsAlike P b w z s who [] (assign target e) (does d))) (sym form)
      (subst (λ (o : Option Told). IfSome (assigned_to b s seats (place target) e (record { spot = record { seat = record { depth = x.spot.seat.depth; form = slot_form of; start = x.spot.seat.start; owner = x.spot.seat.owner }; told = o }; slice = x.slice })) (λ d. RunsAlike P b w z s who [] (assign target e) (does d))) (sym untold)
      (by_test (ready_test s seats (table_found b) (place target) e) tests)) where
        by_test : (o : Option Test) → IfSome o (Gives P b w z s who (place target) e (IsOfClass (kind_of s e))) → IfSome (assigns x.slice (Some (slot_place.Fixed x.spot.seat.start.slot)) o) (λ d. RunsAlike P b w z s who [] (assign target e) (does d))
        by_test None f = tt
        by_test (Some t) f = slot_goes target e x of t chosen (taken s (place target) e keeps.0) means form untold f
