-- Each primitive that an action of an accepted program comes to fits a lowering that shows the program.
use Rattle.std.proofs.Common.{◌≡◌, inl, inr, ℕ, ◌<◌, ◌^◌, Bool, true, false, ◌&&◌, Option, Some, None, List, [], ◌∷◌, length, refl, sym, ap, ◌∙◌, subst, arith}
use Rattle.std.specs.Prelude.{is_some, unwrap_or, flat_map}
use Rattle.std.specs.List.{AllByRecursion}
use Rattle.fabric.specs.declared.items.RequestKind.{RequestKind}
use Rattle.fabric.specs.declared.items.RequestKind.TheVariants.{CloneI2E, CloneE2E, Resubmit, Recirculate}
use Rattle.p414_syntax.specs.declared.lexeme.Literal.{Literal}
use Rattle.p414_syntax.specs.declared.calculations.Item.{Item}
use Rattle.p414_syntax.specs.declared.calculations.Item.TheVariants as item
use Rattle.p414_syntax.specs.declared.syntax.Decl.{Decl}
use Rattle.p414_syntax.specs.Breaks.{BreaksNone, program_rules}
use Rattle.p414_syntax.specs.Arguments.{Invocation, actions, placed_arguments}
use Rattle.p414_syntax.specs.Preserved.{list_of, preserved_lists}
use Rattle.p414_sem.specs.Expanded.{Expanded, IsExpanded, primitives_at}
use Rattle.p414_sem.specs.Operations.{Source, number, field, parameter, Term, just, on_mask, sum, difference, conjunction, disjunction, exclusive, left_shift, right_shift, cell, hashed, Primitive, write, add_header, remove_header, copy_header, push, pop, count_cell, write_cell, execute_meter, ask, nothing, primitive_of}
use Rattle.p414_sem.specs.Slots.{Target, slot_of}
use Rattle.agreement_of_meanings.specs.Agrees.{mark_of}
use Rattle.lower_laws_base.specs.Context.{Lowering, words_of, IsSlot, SourceFits}
use Rattle.lower_laws_base.specs.Mirror.{width_in}
use Rattle.lower_laws_states.specs.Standing.{SlotStands, SourceStands, TermStands, TargetStands, PrimitiveStands}
use Rattle.lower_laws_states.specs.Expansions.{Has}
use Rattle.lower_laws_states.proofs.Members.{has_each}
use Rattle.lower_laws_states.proofs.Rules.{none_twice}
use Rattle.lower_laws_states.proofs.Accepted.{accepted_primitives, accepted_calls}
use Rattle.lower_laws_states.proofs.Standing.{accepted_stands}
use Rattle.lower_laws_actions.specs.Fits.{ItemFits, ItemsFit, TermFits, KeptFits, ListFits, SessionFits, PrimitiveFits, AllFit}
use Rattle.lower_laws_actions.specs.Runs.{primitives_of}
use Rattle.lower_laws_premises.specs.Literals.{IsSpelt, IsFitting, IsFittingItem}
use Rattle.lower_laws_premises.specs.Counts.{HasBits, IsPreserved, SessionIs, TermCounts, PrimitiveCounts}
use Rattle.lower_laws_premises.specs.Shown.{Shows}
use Rattle.lower_laws_premises.proofs.Literals.{primitives_fit}
use Rattle.lower_laws_premises.proofs.Sources.{sized}
use Rattle.lower_laws_premises.proofs.Bits.{bits_stand}
use Rattle.lower_laws_premises.proofs.Counting.{primitive_counts}
use Rattle.lower_laws_premises.proofs.LayoutFits.{slot_is, bits_are, header_is, stack_is, fields_same}
use Rattle.lower_laws_premises.proofs.Objects.{counter_is, register_is, meter_is}
use Rattle.lower_laws_premises.proofs.Rules.{few_preserved, each_distinct, has_so}
use Rattle.lower_laws_premises.proofs.Hashes.{IsHashItem, hash_items}

kept_so : (a b : Bool) (term : Term) → KeptFits a term → KeptFits (a && b) term
kept_so false b term fits = tt
kept_so true false term fits = tt
kept_so true true term fits = fits

module _ (ds : List Decl) (none : BreaksNone ds program_rules) (spelt : IsSpelt ds) (x : Expanded) (is : IsExpanded ds x) where
  -- each primitive of an action names what is there, and its numbers fit
  pub accepted_counts : (n : ℕ) → n < length (actions ds) → (i : Invocation) → Has (primitives_at x n) i → PrimitiveCounts ds x i (primitive_of ds x i)
  accepted_counts n lt i h =
      primitive_counts ds none x (length (is.each_action n lt).action.parameters) i (has_each _ (primitives_at x n) i (accepted_primitives ds none x is n lt) h) (accepted_calls ds none x is n lt i h)
      (has_each (λ (j : Invocation). AllByRecursion IsFitting j.arguments) (primitives_at x n) i (primitives_fit ds spelt n (primitives_at x n) (is.each_action n lt)) h)
      (has_each (λ j. PrimitiveStands ds x (length (is.each_action n lt).action.parameters) (primitive_of ds x j)) (primitives_at x n) i (accepted_stands ds none x is n lt) h)

  module _ (c : Lowering) (shows : Shows c ds) where
    slot : (s : _) → SlotStands ds s → IsSlot c.layout s
    slot = slot_is c ds shows.instances shows.roots

    target : (t : Target) → TargetStands ds t → HasBits ds t → IsSlot c.layout t.slot × (t.width ≡ width_in (words_of c) t.slot)
    target t stands bits = (slot t.slot stands.slot, bits ∙ bits_are c ds shows.instances shows.roots t.slot stands.slot)

    source : (count : ℕ) → length c.parameters ≡ count → (a : Source) → SourceStands ds count a → SourceFits c a
    source count same (number z) stands = tt
    source count same (field s) stands = slot s stands
    source count same (parameter n) stands = subst (λ k. n < k) (sym same) stands

    -- items of hashes

    number_fits : (w : Option ℕ) (n : Literal) → n.width ≡ w → is_some w ≡ true → IsFittingItem (item.Number n) → n.value < 2 ^ unwrap_or w 0
    number_fits None n e there is = absurd (cc there)
    number_fits (Some w) n e there is = (sized n w e is).2

    item_fits : (i : Item) → IsHashItem ds none spelt x is i → ItemFits c ds i
    item_fits item.Payload h = absurd (cc h.unpaid)
    item_fits (item.Number n) h = number_fits n.width n refl h.stands h.fits
    item_fits (item.Field r) h = (slot (slot_of ds r) h.stands, bits_stand ds (none_twice ds none) r h.stands ∙ bits_are c ds shows.instances shows.roots (slot_of ds r) h.stands)
    item_fits (item.Instance i) h = absurd h.stands

    items_fit : (items : List Item) → AllByRecursion (IsHashItem ds none spelt x is) items → ItemsFit c ds items
    items_fit [] each = tt
    items_fit (i ∷ items) each = (item_fits i each.0, items_fit items each.1)

    -- lists that are preserved
    list_fits : (list : Option ℕ) → IsPreserved ds list → ListFits c list
    list_fits None is = shows.marks.zero
    list_fits (Some l) is =
        let m = shows.marks.marked is.0 l (has_so (preserved_lists ds) is.0 (each_distinct (flat_map list_of (placed_arguments ds)) is.0 is.1)) is.2 in
        let most = m.2 in
        let few = few_preserved ds none in
        (m.0, m.1, omega (arith, most, few))

    session_fits : (count : ℕ) → length c.parameters ≡ count → (kind : RequestKind) (session : Source) → SourceStands ds count session → SessionIs kind session → SessionFits c kind session
    session_fits count same CloneI2E session stands is = source count same session stands
    session_fits count same CloneE2E session stands is = source count same session stands
    session_fits count same Resubmit session stands is = is
    session_fits count same Recirculate session stands is = is

    -- a primitive of an action with so many parameters
    module _ (count : ℕ) (same : length c.parameters ≡ count) where
      both : (a b : Source) → SourceStands ds count a × SourceStands ds count b → SourceFits c a × SourceFits c b
      both a b stands = (source count same a stands.0, source count same b stands.1)

      term : (t : Term) → TermStands ds x count t → TermCounts ds x t → TermFits c ds t
      term (just a) stands counts = source count same a stands
      term (on_mask a b) stands counts = both a b stands
      term (sum a b) stands counts = both a b stands
      term (difference a b) stands counts = both a b stands
      term (conjunction a b) stands counts = both a b stands
      term (disjunction a b) stands counts = both a b stands
      term (exclusive a b) stands counts = both a b stands
      term (cell object index) stands counts = (register_is c ds shows.new shows.objects object stands.0, source count same index stands.1)
      term (left_shift a b) stands counts = (source count same a stands.0, source count same b stands.1, counts.0, counts.1)
      term (right_shift a b) stands counts = (source count same a stands.0, source count same b stands.1, counts.0, counts.1)
      term (hashed base calculation bound) stands counts = (source count same base stands.0, source count same bound stands.2, counts.0, counts.1, items_fit calculation.items (hash_items ds none spelt x is calculation counts.2))

      pub primitive_fits : (i : Invocation) (p : Primitive) → PrimitiveStands ds x count p → PrimitiveCounts ds x i p → PrimitiveFits c ds p
      primitive_fits i (write sums t z) stands counts =
          let to = target t stands.0 counts.0 in (to.0, to.1, term z stands.1 counts.1, kept_so sums t.saturating z counts.2)
      primitive_fits i (add_header at) stands counts = header_is c ds shows.instances shows.roots at stands
      primitive_fits i (remove_header at) stands counts = header_is c ds shows.instances shows.roots at stands
      primitive_fits i (copy_header to from) stands counts = (header_is c ds shows.instances shows.roots to stands.to, header_is c ds shows.instances shows.roots from stands.source, fields_same c ds shows.instances shows.roots to from stands)
      primitive_fits i (count_cell object index) stands counts = (counter_is c ds shows.new shows.objects object stands.0, source count same index stands.1)
      primitive_fits i (write_cell object index value) stands counts = (register_is c ds shows.new shows.objects object stands.0, source count same index stands.1, source count same value stands.2)
      primitive_fits i (execute_meter object index t) stands counts =
          let to = target t stands.2 counts in (meter_is c ds shows.new shows.objects object stands.0, source count same index stands.1, to.0, to.1)
      primitive_fits i (ask kind session list) stands counts = (session_fits count same kind session stands.0 counts.1, list_fits list counts.2)
      primitive_fits i (push stack n) stands counts = (stack_is c ds shows.instances shows.roots stack stands, omega (arith, counts))
      primitive_fits i (pop stack n) stands counts = (stack_is c ds shows.instances shows.roots stack stands, omega (arith, counts))
      primitive_fits i nothing stands counts = tt

      all_fit_of : (all : List Invocation) → ((i : Invocation) → Has all i → PrimitiveFits c ds (primitive_of ds x i)) → AllFit c ds (primitives_of ds x all)
      all_fit_of [] each = tt
      all_fit_of (i ∷ all) each = (each i (inl refl), all_fit_of all (λ j h. each j (inr h)))

    -- all primitives of an action
    pub all_fit : (n : ℕ) (lt : n < length (actions ds)) → length c.parameters ≡ length (is.each_action n lt).action.parameters → AllFit c ds (primitives_of ds x (primitives_at x n))
    all_fit n lt same = all_fit_of _ same (primitives_at x n) (λ i h. primitive_fits _ same i (primitive_of ds x i) (has_each (λ j. PrimitiveStands ds x (length (is.each_action n lt).action.parameters) (primitive_of ds x j)) (primitives_at x n) i (accepted_stands ds none x is n lt) h) (accepted_counts n lt i h))
