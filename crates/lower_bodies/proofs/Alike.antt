-- A row reads and changes what its primitive does, so a body needs copies by its rows where the mirror says so.
use Rattle.std.proofs.Common.{◌≡◌, inl, inr, ℕ, zero, suc, true, false, List, [], ◌∷◌, ◌++◌, map, refl, sym, ap, ap₂, ◌∙◌, subst}
use Rattle.std.specs.Prelude.{not, flat_map, slice_index_or}
use Rattle.std.specs.Global.{Vec}
use Rattle.std.proofs.lemmas.Bool.{true≢false}
use Rattle.p414_syntax.specs.declared.calculations.Item.{Item}
use Rattle.p414_syntax.specs.declared.calculations.Item.TheVariants as old
use Rattle.p414_syntax.specs.declared.syntax.Decl.{Decl}
use Rattle.p414_syntax.specs.declared.syntax.Rule14.{Rule14}
use Rattle.p414_syntax.specs.declared.syntax.Rule14.TheVariants.{Sequential, Parallel}
use Rattle.p414_sem.specs.Slots.{Slot, slot_of}
use Rattle.p414_sem.specs.Operations.{Source, Term, just, on_mask, sum, difference, conjunction, disjunction, exclusive, left_shift, right_shift, cell, hashed, Primitive, write, add_header, remove_header, copy_header, push, pop, count_cell, write_cell, execute_meter, ask, nothing}
use Rattle.p414_slots.specs.declared.slot.FieldSlot.{FieldSlot}
use Rattle.p414_ready_actions.specs.declared.rows.ReadyPrimitive.{ReadyPrimitive}
use Rattle.p414_ready_actions.specs.declared.rows.ReadyPrimitive.TheVariants as ready
use Rattle.p414_ready_actions.specs.Rows.{kept_source, kept_target, kept_primitive}
use Rattle.lower_laws_actions.specs.Apart.{Part, number_of, source_reads, both_read, item_reads, term_reads, target_reads, is_written, needs_copies}
use Rattle.lower_bodies.specs.Apart.{items_read, IsAlike, AreAlike}
use Rattle.lower_bodies.proofs.Behind.{alike_are_apart}
use Rattle.lower_rows.specs.declared.calculations.CalculationRow.{CalculationRow}
use Rattle.lower_expressions.specs.declared.table.WordsTable.{WordsTable}
use Rattle.lower_rows.specs.Calculations.{no_calculation_row}
use Rattle.lower_rows.specs.Calculations.{kept_item}
use Rattle.lower_primitives.specs.Kept.{is_plain_term, is_plain, HashKept, IsKept, AreKept}
use Rattle.lower_bodies.specs.Reading.{item_parts, row_parts, slots_parts, AreRead, rows_need}
use Rattle.lower_expressions.proofs.Kept.{slot_same, source_same}
use Rattle.lower_primitives.proofs.Same.{term_same}

-- what calculations read, by number

abbrev first : List (List Part) → List Part
first [] = []
first (x ∷ xs) = x

abbrev others : List (List Part) → List (List Part)
others [] = []
others (x ∷ xs) = xs

read_at : (read : List (Vec FieldSlot)) (rows : List CalculationRow) → map slots_parts read ≡ map row_parts rows → (n : ℕ) → items_read read n ≡ row_parts (slice_index_or rows n no_calculation_row)
read_at [] [] e n = refl
read_at (v ∷ read) (row ∷ rows) e zero = ap first e
read_at (v ∷ read) (row ∷ rows) e (suc n) = read_at read rows (ap others e) n
read_at [] (row ∷ rows) e n = absurd (cc e)
read_at (v ∷ read) [] e n = absurd (cc e)

-- a term reads what it reads, whatever is declared, unless it is a hash
term_free : (ds : List Decl) (s : Slot) (x : Term) → is_plain_term x ≡ true → term_reads ds s x ≡ term_reads [] s x
term_free ds s (just a) e = refl
term_free ds s (on_mask a b) e = refl
term_free ds s (sum a b) e = refl
term_free ds s (difference a b) e = refl
term_free ds s (conjunction a b) e = refl
term_free ds s (disjunction a b) e = refl
term_free ds s (exclusive a b) e = refl
term_free ds s (left_shift a b) e = refl
term_free ds s (right_shift a b) e = refl
term_free ds s (cell object a) e = refl
term_free ds s (hashed a c b) e = absurd (true≢false (sym e))

module _ (ds : List Decl) (read : List (Vec FieldSlot)) where
  plain_alike : (p : Primitive) → is_plain p ≡ true → IsAlike ds read p (kept_primitive p)
  plain_alike (write sums target x) e = record {
    reads_same =
        ap (λ (l : List Part). target_reads target.slot ++ l) (term_free ds target.slot x e)
        ∙ ap₂ (λ (s : Slot) (y : Term). target_reads s ++ term_reads [] s y) (sym (slot_same target.slot)) (sym (term_same x e));
    changes_same = λ part. ap (λ (s : Slot). is_written s part) (sym (slot_same target.slot));
  }
  plain_alike (add_header h) e = record { reads_same = refl; changes_same = λ part. refl }
  plain_alike (remove_header h) e = record { reads_same = refl; changes_same = λ part. refl }
  plain_alike (copy_header h from) e = record { reads_same = refl; changes_same = λ part. refl }
  plain_alike (push stack count) e = record { reads_same = refl; changes_same = λ part. refl }
  plain_alike (pop stack count) e = record { reads_same = refl; changes_same = λ part. refl }
  plain_alike (count_cell object index) e = record { reads_same = ap source_reads (sym (source_same index)); changes_same = λ part. refl }
  plain_alike (write_cell object index value) e = record { reads_same = ap₂ both_read (sym (source_same index)) (sym (source_same value)); changes_same = λ part. refl }
  plain_alike (execute_meter object index target) e = record {
    reads_same = ap₂ (λ (s : Slot) (a : Source). target_reads s ++ source_reads a) (sym (slot_same target.slot)) (sym (source_same index));
    changes_same = λ part. ap (λ (s : Slot). is_written s part) (sym (slot_same target.slot));
  }
  plain_alike (ask kind session list) e = record { reads_same = ap source_reads (sym (source_same session)); changes_same = λ part. refl }
  plain_alike nothing e = record { reads_same = refl; changes_same = λ part. refl }

item_alike : (ds : List Decl) (i : Item) → item_reads ds i ≡ item_parts (kept_item ds i)
item_alike ds (old.Number n) = refl
item_alike ds (old.Field r) = ap (λ (s : Slot). number_of s ∷ []) (sym (slot_same (slot_of ds r)))
item_alike ds old.Payload = refl
item_alike ds (old.Instance i) = refl

items_alike : (ds : List Decl) (items : List Item) → flat_map (item_reads ds) items ≡ flat_map item_parts (map (kept_item ds) items)
items_alike ds [] = refl
items_alike ds (i ∷ items) = ap₂ (◌++◌) (item_alike ds i) (items_alike ds items)

module _ (ds : List Decl) (t : WordsTable) (read : List (Vec FieldSlot)) (are : AreRead t read) where
  hash_alike : (p : Primitive) (row : ReadyPrimitive) (k : HashKept ds t p row) → IsAlike ds read (write false k.target (hashed k.base k.calculation k.bound)) (ready.Hash (kept_target false k.target) (kept_source k.base) k.number (kept_source k.bound))
  hash_alike p row k = record {
    reads_same =
        ap₂ (λ (s : Slot) (l : List Part). target_reads s ++ l) (sym (slot_same k.target.slot))
        (ap₂ (◌++◌) (ap₂ both_read (sym (source_same k.base)) (sym (source_same k.bound)))
        (items_alike ds k.calculation.items ∙ ap row_parts (sym k.calculation_is) ∙ sym (read_at read t.calculations.now are k.number)));
    changes_same = λ part. ap (λ (s : Slot). is_written s part) (sym (slot_same k.target.slot));
  }

  row_alike : (p : Primitive) (row : ReadyPrimitive) → IsKept ds t p row → IsAlike ds read p row
  row_alike p row (inl k) = subst (IsAlike ds read p) (sym k.row_is) (plain_alike ds read p k.plain)
  row_alike p row (inr k) =
      subst (λ (q : Primitive). IsAlike ds read q row) (sym k.primitive_is)
      (subst (IsAlike ds read (write false k.target (hashed k.base k.calculation k.bound))) (sym k.row_is) (hash_alike p row k))

  rows_alike : (ps : List Primitive) (rows : List ReadyPrimitive) → AreKept ds t ps rows → AreAlike ds read ps rows
  rows_alike [] [] k = tt
  rows_alike (p ∷ ps) (row ∷ rows) k = (row_alike p row k.0, rows_alike ps rows k.1)
  rows_alike (p ∷ ps) [] k = absurd k
  rows_alike [] (row ∷ rows) k = absurd k

  pub need_same : (rule : Rule14) (ps : List Primitive) (rows : List ReadyPrimitive) → AreKept ds t ps rows → rows_need read rule rows ≡ needs_copies ds rule ps
  need_same Sequential ps rows k = refl
  need_same Parallel ps rows k = ap not (alike_are_apart ds read ps rows (rows_alike ps rows k))
