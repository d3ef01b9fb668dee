-- A single value is assigned to what an l-value means.
use Rattle.std.proofs.Common.{◌≡◌, inl, inr, ℕ, ◌+◌, ◌*◌, Bool, true, false, cond, Option, Some, None, IfSome, length, refl, sym, ap, ◌∙◌, subst}
use Rattle.std.specs.Prelude.{option_map}
use Rattle.p416_syntax.specs.Tree.{Exp16}
use Rattle.p416_syntax.specs.Scopes.{Scope}
use Rattle.p416_syntax.specs.Calls.{Place}
use Rattle.p416_syntax.specs.Breaks.{BreaksNone, program_rules}
use Rattle.v1_core.specs.declared.parser_error.ParserError.TheVariants.{StackOutOfBounds}
use Rattle.v1_core.specs.Values.{Slice as SliceOf}
use Rattle.v1_core.specs.Frames as sem
use Rattle.v1_core.specs.Frames.{Reference, put_at}
use Rattle.v1_core.specs.Slots.{variable_kinds}
use Rattle.v1_core.specs.Surroundings as meaning
use Rattle.v1_core.specs.Numbered.{InScope}
use Rattle.v1_core.specs.Expressions as sem_expressions
use Rattle.v1_core.specs.Expressions.{Referred, reference_of, value_of}
use Rattle.v1_core.specs.Cells.{Cells, stack_place, stack_size}
use Rattle.v1_core.specs.Seats.{Content, some_bits, a_truth, an_error, Form, slot_form, header_form, stack_form, struct_form, no_form, Seat}
use Rattle.v1_core.specs.Scopes.{IsScope}
use Rattle.v1_core.specs.Ready.{Ended, element_by, is_past}
use Rattle.v1_ready_forms.specs.Spots.{Told, Spot, spot, element_with}
use Rattle.v1_ready_laws.specs.Asked.{stopped_by}
use Rattle.v1_ready_blocks.specs.declared.places.SlotPlace.{SlotPlace}
use Rattle.v1_ready_blocks.specs.declared.places.SlotPlace.TheVariants as slot_place
use Rattle.v1_ready_blocks.specs.Moments.{Moment, with_cells, raised}
use Rattle.v1_ready_blocks.specs.Places.{seen_slice, slot_at, put_value}
use Rattle.v1_ready_blocks.specs.Tests.{Valued, World, Test, test_value, with_test, with_slot_at}
use Rattle.v1_place_laws.specs.Places.{Meant, slot_place_of}
use Rattle.v1_place_laws.specs.Finding.{in_element, seat_now, IsAt, FoundAt}
use Rattle.v1_place_laws.specs.Laws.{FitsSlot}
use Rattle.v1_deed_laws.proofs.Slots.{slots_put}
use Rattle.v1_ready_statements.specs.Around.{Around}
use Rattle.v1_ready_statements.specs.Targets.{ready_slice}
use Rattle.v1_statement_laws.specs.Behind.{Shown, ValuedShows}
use Rattle.v1_statement_laws.specs.Evaluating.{Evaluates}
use Rattle.v1_statement_laws.proofs.Closing.{running_is, stopped_is, raised_shown}

-- where the slot of an l-value is found its seat is, and the other way round

abbrev SlotFound : Option ℕ → Option Seat → Content → Type 0
SlotFound None None c = Unit {0}
SlotFound (Some slot) (Some t) c = (slot ≡ t.start.slot) × (t.form ≡ slot_form c)
SlotFound _ _ c = ⊥

told_found : (c : Cells) (depth : ℕ) (width : ℕ) (x : Seat) (t : Told) → x.form ≡ slot_form (some_bits width) → SlotFound (slot_at c (slot_place.Told (element_with t x.start.slot t.apart))) (seat_now c (spot (Some t) x)) (some_bits width)
told_found c depth width x t form = by (is_past t.which (stack_place c t.stack) (stack_size c t.stack)) where
  by : (past : Bool) → SlotFound (cond past None (Some (x.start.slot + element_by t.which (stack_place c t.stack) * t.apart))) (cond past None (Some (in_element t.apart (element_by t.which (stack_place c t.stack)) x))) (some_bits width)
  by true = tt
  by false = (refl, form)

-- by the form of the seat
slot_by : (c : Cells) (x : Seat) (told : Option Told) (of : Content) (form : Form) → x.form ≡ form → form ≡ slot_form of → IfSome (slot_place_of (record { seat = record { depth = x.depth; form = form; start = x.start; owner = x.owner }; told = told })) (λ to. SlotFound (slot_at c to) (seat_now c (record { seat = x; told = told })) of)
slot_by c x None of (slot_form content) same is = (refl, same ∙ is)
slot_by c x (Some t) of (slot_form (some_bits width)) same is =
    subst (λ (k : Content). SlotFound (slot_at c (slot_place.Told (element_with t x.start.slot t.apart))) (seat_now c (record { seat = x; told = Some t })) k) (content_is (some_bits width) of is)
    (told_found c 0 width x t same)
  where
    content_is : (k l : Content) → slot_form k ≡ slot_form l → k ≡ l
    content_is k l e = let inner : k ≡ l = cc e in inner
slot_by c x (Some t) of (slot_form a_truth) same is = tt
slot_by c x (Some t) of (slot_form an_error) same is = tt
slot_by c x told of (header_form type) same is = absurd (cc is)
slot_by c x told of (stack_form type size) same is = absurd (cc is)
slot_by c x told of (struct_form type) same is = absurd (cc is)
slot_by c x told of no_form same is = absurd (cc is)

pub slot_found : (c : Cells) (x : Spot) (of : Content) (to : SlotPlace) → x.seat.form ≡ slot_form of → slot_place_of x ≡ Some to → SlotFound (slot_at c to) (seat_now c x) of
slot_found c x of to form is = subst (λ (o : Option SlotPlace). IfSome o (λ p. SlotFound (slot_at c p) (seat_now c x) of)) is (slot_by c x.seat x.told of x.seat.form refl form)

-- a slice as it is made ready
slices_are : (cut : Option SliceOf) → option_map seen_slice (option_map ready_slice cut) ≡ cut
slices_are None = refl
slices_are (Some s) = refl

at_some : {A : Type 0} (B : A → Type 0) (o : Option A) (x : A) → o ≡ Some x → IfSome o B → B x
at_some {A = A} B o x is h = subst (λ (p : Option A). IfSome p B) is h

module _ (P : Cells → Type 0) (b : Around) (w : meaning.World) (z : World) (s : Scope) (who : InScope) (accepted : BreaksNone b.syntax program_rules) (scope : IsScope (length (variable_kinds b.syntax)) who) where
  -- the value goes to what was found
  pub value_put : (r : Reference) (slice : Option SliceOf) (t : Seat) (of : Content) (v : sem_expressions.Valued) (u : Valued) → IsAt b.syntax who r slice t → t.form ≡ slot_form of → (v.moment.stopped ≡ None → FitsSlot of (option_map ready_slice slice) v.value) → ValuedShows P b.syntax who v u → Shown P b.syntax who (sem.going_on (put_at r v.value) v.moment) (with_test u (λ x n. with_cells (put_value t.start.slot (option_map ready_slice slice) x n.cells) n))
  value_put r slice t of v u at form fits (inl h) =
      subst (λ (x : sem.Moment). Shown P b.syntax who x (with_test u (λ x n. with_cells (put_value t.start.slot (option_map ready_slice slice) x n.cells) n))) (sym (running_is v.moment.stopped v.moment (put_at r v.value v.moment) h.1))
      (subst (λ (end : Ended). Shown P b.syntax who (put_at r v.value v.moment) (with_test (record { value = end; moment = u.moment }) (λ x n. with_cells (put_value t.start.slot (option_map ready_slice slice) x n.cells) n))) (sym h.0)
      (record {
        shows = slots_put b.syntax who r (option_map ready_slice slice) t of v.value v.moment u.moment accepted scope (subst (λ (cut : Option SliceOf). IsAt b.syntax who r cut t) (sym (slices_are slice)) at) form (fits h.1) h.2.shows;
        waits = h.2.waits;
      }))
  value_put r slice t of v u at form fits (inr h) =
      subst (λ (x : sem.Moment). Shown P b.syntax who x (with_test u (λ x n. with_cells (put_value t.start.slot (option_map ready_slice slice) x n.cells) n))) (sym (stopped_is v.moment.stopped h.0 v.moment (put_at r v.value v.moment) h.2))
      (subst (λ (end : Ended). Shown P b.syntax who v.moment (with_test (record { value = end; moment = u.moment }) (λ x n. with_cells (put_value t.start.slot (option_map ready_slice slice) x n.cells) n))) (sym h.1) h.3)

  -- the l-value is found first
  pub by_place : (p : Place) (e : Exp16) (of : Content) (x : Meant) (t : Test) (r : Referred) (m : sem.Moment) (k : Moment) (o : Option ℕ) (q : Option Seat) → Shown P b.syntax who m k → m.stopped ≡ None → SlotFound o q of → FoundAt b.syntax who x.slice r m q → Evaluates P b w z s who p e (FitsSlot of (option_map ready_slice x.slice)) t
      → Shown P b.syntax who (sem.going_on (put_at r.reference (value_of w s p e r.moment).value) (value_of w s p e r.moment).moment) (with_slot_at o k (λ slot. with_test (test_value z.apply t k) (λ v n. with_cells (put_value slot (option_map ready_slice x.slice) v n.cells) n)))
  by_place p e of x t r m k None None h runs found at evaluates =
      let stays : (value_of w s p e r.moment).moment ≡ stopped_by StackOutOfBounds m = ap (λ (n : sem.Moment). (value_of w s p e n).moment) at ∙ evaluates.stays m k StackOutOfBounds h runs in
      subst (λ (y : sem.Moment). Shown P b.syntax who y (raised StackOutOfBounds k))
      (sym (stopped_is (value_of w s p e r.moment).moment.stopped StackOutOfBounds (value_of w s p e r.moment).moment (put_at r.reference (value_of w s p e r.moment).value (value_of w s p e r.moment).moment) (ap (λ (n : sem.Moment). n.stopped) stays) ∙ stays))
      (raised_shown P b.syntax who StackOutOfBounds m k h runs)
  by_place p e of x t r m k None (Some seat) h runs found at evaluates = absurd found
  by_place p e of x t r m k (Some slot) None h runs found at evaluates = absurd found
  by_place p e of x t r m k (Some slot) (Some seat) h runs found at evaluates =
      subst (λ (n : sem.Moment). Shown P b.syntax who (sem.going_on (put_at r.reference (value_of w s p e n).value) (value_of w s p e n).moment) (with_test (test_value z.apply t k) (λ v n. with_cells (put_value slot (option_map ready_slice x.slice) v n.cells) n))) (sym at.0)
      (subst (λ (i : ℕ). Shown P b.syntax who (sem.going_on (put_at r.reference (value_of w s p e m).value) (value_of w s p e m).moment) (with_test (test_value z.apply t k) (λ v n. with_cells (put_value i (option_map ready_slice x.slice) v n.cells) n))) (sym found.0)
      (value_put r.reference x.slice seat of (value_of w s p e m) (test_value z.apply t k) at.1 found.1 (λ ends. evaluates.holds m k h runs ends) (evaluates.gives m k h runs)))
