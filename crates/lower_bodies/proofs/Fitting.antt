-- Rows of primitives that fit have what is asked of them.
use Rattle.std.proofs.Common.{◌≡◌, inl, inr, ℕ, ◌<◌, ◌≤◌, Bool, true, false, List, [], ◌∷◌, length, map, sym, subst, arith}
use Rattle.std.proofs.lemmas.Bool.{true≢false}
use Rattle.fabric.specs.declared.items.RequestKind.{RequestKind}
use Rattle.fabric.specs.declared.items.RequestKind.TheVariants.{CloneI2E, CloneE2E, Resubmit, Recirculate}
use Rattle.p414_syntax.specs.declared.calculations.Item.{Item}
use Rattle.p414_syntax.specs.declared.calculations.Item.TheVariants as old
use Rattle.p414_syntax.specs.declared.syntax.Decl.{Decl}
use Rattle.p414_sem.specs.declared.standard.Standard.TheVariants.{IngressPort, EgressSpec, EgressPort, PacketLength, InstanceType}
use Rattle.p414_sem.specs.Slots.{Slot, standard, declared, Target, slot_of}
use Rattle.p414_sem.specs.Operations.{Source, number, field, parameter, Term, just, on_mask, sum, difference, conjunction, disjunction, exclusive, left_shift, right_shift, cell, hashed, Primitive, write, add_header, remove_header, copy_header, push, pop, count_cell, write_cell, execute_meter, ask, nothing}
use Rattle.p414_slots.specs.Shown.{slot_in, kept_slot}
use Rattle.p414_ready_actions.specs.declared.rows.ReadyPrimitive.{ReadyPrimitive}
use Rattle.p414_ready_actions.specs.Rows.{kept_source, kept_target, kept_term, kept_primitive}
use Rattle.p414_ready_actions.specs.Running.{shown_source, shown_target, shown_term}
use Rattle.p416_syntax.specs.Kinds.{ObjectKind}
use Rattle.lower_laws_base.specs.Context.{Words, Lowering, words_of, IsSlot, SourceFits}
use Rattle.lower_laws_base.specs.Mirror.{width_in}
use Rattle.lower_laws_actions.specs.Fits.{IsObject, ItemsFit, TermFits, SessionFits, PrimitiveFits, AllFit}
use Rattle.lower_rows.specs.declared.calculations.CalculationRow.{CalculationRow}
use Rattle.lower_expressions.specs.declared.table.WordsTable.{WordsTable}
use Rattle.lower_expressions.specs.Table.{words_in}
use Rattle.lower_expressions.specs.Has.{SlotHas, SourceHas, ObjectHas, TargetHas}
use Rattle.lower_primitives.specs.Has.{TermHas, ItemsHave, RowHas, RowsHave}
use Rattle.lower_rows.specs.Calculations.{kept_item}
use Rattle.lower_primitives.specs.Kept.{is_plain_term, is_plain, IsKept, AreKept}
use Rattle.lower_bodies.specs.Fitting.{IsNarrow, FittingRowsHave}
use Rattle.lower_expressions.proofs.Kept.{slot_same, source_same}
use Rattle.lower_primitives.proofs.Same.{term_same}

module _ (c : Lowering) (ds : List Decl) (narrow : IsNarrow (words_of c)) where
  slot_has : (s : Slot) → IsSlot c.layout s → SlotHas (words_of c) s
  slot_has (standard which) fits = tt
  slot_has (declared i e k) fits = (fits.0, fits.3)

  slot_narrow : (s : Slot) → IsSlot c.layout s → width_in (words_of c) s ≤ 128
  slot_narrow (standard IngressPort) fits = omega arith
  slot_narrow (standard EgressSpec) fits = omega arith
  slot_narrow (standard EgressPort) fits = omega arith
  slot_narrow (standard PacketLength) fits = omega arith
  slot_narrow (standard InstanceType) fits = omega arith
  slot_narrow (declared i e k) fits = narrow.fields i k fits.0 fits.3

  source_has : (a : Source) → SourceFits c a → SourceHas (words_of c) a
  source_has (number z) fits = tt
  source_has (field s) fits = (slot_has s fits, slot_narrow s fits)
  source_has (parameter j) fits = (fits, narrow.parameters j fits)

  object_has : (kind : ObjectKind) (object : ℕ) → IsObject c kind object → ObjectHas (words_of c) object
  object_has kind object is = (is.0, narrow.objects object is.0)

  term_has : (x : Term) → is_plain_term x ≡ true → TermFits c ds x → TermHas (words_of c) x
  term_has (just a) e fits = source_has a fits
  term_has (on_mask a b) e fits = (source_has a fits.0, source_has b fits.1)
  term_has (sum a b) e fits = (source_has a fits.0, source_has b fits.1)
  term_has (difference a b) e fits = (source_has a fits.0, source_has b fits.1)
  term_has (conjunction a b) e fits = (source_has a fits.0, source_has b fits.1)
  term_has (disjunction a b) e fits = (source_has a fits.0, source_has b fits.1)
  term_has (exclusive a b) e fits = (source_has a fits.0, source_has b fits.1)
  term_has (left_shift a b) e fits = (source_has a fits.0, source_has b fits.1)
  term_has (right_shift a b) e fits = (source_has a fits.0, source_has b fits.1)
  term_has (cell object a) e fits = (object_has _ object fits.0, source_has a fits.1)
  term_has (hashed a x b) e fits = absurd (true≢false (sym e))

  session_has : (kind : RequestKind) (a : Source) → SessionFits c kind a → SourceHas (words_of c) a
  session_has CloneI2E a fits = source_has a fits
  session_has CloneE2E a fits = source_has a fits
  session_has Resubmit a fits = subst (SourceHas (words_of c)) (sym fits) tt
  session_has Recirculate a fits = subst (SourceHas (words_of c)) (sym fits) tt

  items_have : (items : List Item) → ItemsFit c ds items → ItemsHave (words_of c) (map (kept_item ds) items)
  items_have [] fits = tt
  items_have (old.Number n ∷ items) fits = (tt, items_have items fits.1)
  items_have (old.Field r ∷ items) fits = (subst (SlotHas (words_of c)) (sym (slot_same (slot_of ds r))) (slot_has (slot_of ds r) fits.0.0), items_have items fits.1)
  items_have (old.Payload ∷ items) fits = (tt, items_have items fits.1)
  items_have (old.Instance i ∷ items) fits = (tt, items_have items fits.1)

-- the same of what is kept, in the table
module _ (c : Lowering) (ds : List Decl) (t : WordsTable) (is : words_of c ≡ words_in t) (narrow : IsNarrow (words_of c)) where
  shown_has : (a : Source) → SourceHas (words_of c) a → SourceHas (words_in t) (shown_source (kept_source a))
  shown_has a has = subst (λ w. SourceHas w (shown_source (kept_source a))) is (subst (SourceHas (words_of c)) (sym (source_same a)) has)

  kept_has : (a : Source) → SourceFits c a → SourceHas (words_in t) (shown_source (kept_source a))
  kept_has a fits = shown_has a (source_has c ds narrow a fits)

  target_slot : (s : Slot) (k : ℕ) → IsSlot c.layout s → k ≡ width_in (words_of c) s → SlotHas (words_of c) (slot_in (kept_slot s)) × (k ≤ 128) × (width_in (words_of c) (slot_in (kept_slot s)) ≤ 128)
  target_slot s k fits e =
      let less : width_in (words_of c) s ≤ 128 = slot_narrow c ds narrow s fits in
      subst (λ u. SlotHas (words_of c) u × (k ≤ 128) × (width_in (words_of c) u ≤ 128)) (sym (slot_same s)) (slot_has c ds narrow s fits, omega (arith, e, less), less)

  target_has : (sums : Bool) (x : Target) → IsSlot c.layout x.slot → x.width ≡ width_in (words_of c) x.slot → TargetHas (words_in t) (shown_target (kept_target sums x))
  target_has sums x fits e = subst (λ w. TargetHas w (shown_target (kept_target sums x))) is (target_slot x.slot x.width fits e)

  kept_term_has : (x : Term) → is_plain_term x ≡ true → TermFits c ds x → TermHas (words_in t) (shown_term (kept_term x))
  kept_term_has x e fits = subst (λ w. TermHas w (shown_term (kept_term x))) is (subst (TermHas (words_of c)) (sym (term_same x e)) (term_has c ds narrow x e fits))

  kept_object_has : (kind : ObjectKind) (object : ℕ) → IsObject c kind object → ObjectHas (words_in t) object
  kept_object_has kind object fits = subst (λ w. ObjectHas w object) is (object_has c ds narrow kind object fits)

  within : (i : ℕ) → i < length (words_of c).names.instances → i < length (words_in t).names.instances
  within i lt = subst (λ (w : Words). i < length w.names.instances) is lt

  plain_has : (p : Primitive) → is_plain p ≡ true → PrimitiveFits c ds p → RowHas t (kept_primitive p)
  plain_has (write sums x term) e fits = (target_has sums x fits.0 fits.1, kept_term_has term e fits.2)
  plain_has (add_header h) e fits = within h.instance fits.0.0
  plain_has (remove_header h) e fits = within h.instance fits.0.0
  plain_has (copy_header h from) e fits = (within h.instance fits.0.0.0, within from.instance fits.1.0.0)
  plain_has (push stack count) e fits = within stack fits.0.within
  plain_has (pop stack count) e fits = within stack fits.0.within
  plain_has (count_cell object index) e fits = (kept_object_has _ object fits.0, kept_has index fits.1)
  plain_has (write_cell object index value) e fits = (kept_object_has _ object fits.0, kept_has index fits.1, kept_has value fits.2)
  plain_has (execute_meter object index x) e fits = (kept_object_has _ object fits.0, kept_has index fits.1, target_has true x fits.2 fits.3)
  plain_has (ask kind session list) e fits = shown_has session (session_has c ds narrow kind session fits.0)
  plain_has nothing e fits = tt

  row_has : (p : Primitive) (row : ReadyPrimitive) → PrimitiveFits c ds p → IsKept ds t p row → RowHas t row
  row_has p row fits (inl k) = subst (RowHas t) (sym k.row_is) (plain_has p k.plain fits)
  row_has p row fits (inr k) =
      let f : PrimitiveFits c ds (write false k.target (hashed k.base k.calculation k.bound)) = subst (PrimitiveFits c ds) k.primitive_is fits in
      let items : ItemsHave (words_in t) (map (kept_item ds) k.calculation.items) =
      subst (λ w. ItemsHave w (map (kept_item ds) k.calculation.items)) is (items_have c ds narrow k.calculation.items f.2.4) in
      subst (RowHas t) (sym k.row_is) (
        target_has false k.target f.0 f.1,
        kept_has k.base f.2.0,
        kept_has k.bound f.2.1,
        record {
          within = k.within;
          items = subst (λ (x : CalculationRow). ItemsHave (words_in t) x.items) (sym k.calculation_is) items;
        },
      )

  rows_have : (ps : List Primitive) (rows : List ReadyPrimitive) → AllFit c ds ps → AreKept ds t ps rows → RowsHave t rows
  rows_have [] [] fit kept = tt
  rows_have (p ∷ ps) (row ∷ rows) fit kept = (row_has p row fit.0 kept.0, rows_have ps rows fit.1 kept.1)
  rows_have (p ∷ ps) [] fit kept = absurd kept
  rows_have [] (row ∷ rows) fit kept = absurd kept

pub fitting_rows_have : FittingRowsHave
fitting_rows_have c ds t ps rows is narrow fit kept = rows_have c ds t is narrow ps rows fit kept
