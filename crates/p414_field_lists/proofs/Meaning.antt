-- The bits of rows are those of the items.
use Rattle.std.proofs.Common.{◌≡◌, ℕ, zero, suc, ◌≤◌, Bool, List, [], ◌∷◌, ◌++◌, length, slice_get, Option, Some, None, option_map, Result, Ok, Err, refl, sym, ap, ap₂, ◌∙◌, arith}
use Rattle.std.specs.Prelude.{unwrap_or, IfOk}
use Rattle.std.proofs.lemmas.Grind.{flat_map-append}
use Rattle.std.proofs.lemmas.List.{append-nil, get_or_past}
use Rattle.p4x_bits.specs.BitLists.{bits, octet_bits}
use Rattle.p414_syntax.specs.declared.calculations.FieldList.{FieldList}
use Rattle.p414_syntax.specs.declared.calculations.Item.{Item}
use Rattle.p414_syntax.specs.declared.calculations.Item.TheVariants as item
use Rattle.p414_syntax.specs.declared.syntax.Decl.{Decl}
use Rattle.p414_syntax.specs.Expansion.{lists, items_in}
use Rattle.p414_sem.specs.Slots.{Slot, standard, declared, slot_of, bits_of_ref}
use Rattle.p414_sem.specs.State.{State, read}
use Rattle.p414_sem.specs.Expanded.{Expanded, IsExpanded, items_in_list}
use Rattle.p414_sem.specs.Calculations.{item_bits, list_bits}
use Rattle.p414_slots.specs.Shown.{slot_in, kept_slot}
use Rattle.p414_field_lists.specs.declared.rows.ItemRow.{ItemRow}
use Rattle.p414_field_lists.specs.Rows.{item_rows, rows_of, row_bits, rows_bits, rows_at}
use Rattle.p414_field_lists.specs.Meaning.{AreReady, MeansLists}

slot_back : (slot : Slot) → slot_in (kept_slot slot) ≡ slot
slot_back (standard which) = refl
slot_back (declared i e f) = refl

item_means : (ds : List Decl) (s : State) (i : Item) → rows_bits s (item_rows ds i) ≡ item_bits ds s i
item_means ds s item.Payload = append-nil (octet_bits s.unparsed)
item_means ds s (item.Number n) = append-nil (bits (unwrap_or n.width 0) n.value)
item_means ds s (item.Field r) =
    append-nil (bits (bits_of_ref ds r) (read s (slot_in (kept_slot (slot_of ds r)))))
    ∙ ap (λ (slot : Slot). bits (bits_of_ref ds r) (read s slot)) (slot_back (slot_of ds r))
item_means ds s (item.Instance i) = refl

items_mean : (ds : List Decl) (s : State) (items : List Item) → rows_bits s (rows_of ds items) ≡ list_bits ds s items
items_mean ds s [] = refl
items_mean ds s (i ∷ items) =
    flat_map-append (row_bits s) (item_rows ds i) (rows_of ds items)
    ∙ ap₂ (λ (a b : List Bool). a ++ b) (item_means ds s i) (items_mean ds s items)

past : {X : Type 0} (xs : List X) (n : ℕ) → slice_get xs n ≡ None → length xs ≤ n
past [] n e = omega arith
past (x ∷ xs) zero e = absurd (cc e)
past (x ∷ xs) (suc n) e = let le = past xs n e in omega arith

list_means : (ds : List Decl) (ready : List (List ItemRow)) → AreReady ds ready → (x : Expanded) → IsExpanded ds x → (n : ℕ) (s : State) → rows_bits s (rows_at ready n) ≡ list_bits ds s (items_in_list x n)
list_means ds ready are x expands n s = by_there (slice_get (lists ds) n) refl where
  by_there : (o : Option FieldList) → slice_get (lists ds) n ≡ o → rows_bits s (rows_at ready n) ≡ list_bits ds s (items_in_list x n)
  by_there (Some f) is =
      ap (rows_bits s) ((are.each n).rows f.items (items_in_list x n) (ap (option_map items_in) is) (expands.each_list n f.items (ap (option_map items_in) is)))
      ∙ items_mean ds s (items_in_list x n)
  by_there None is =
      let le : length (lists ds) ≤ n = past (lists ds) n is in
      let many : length ready ≡ length (lists ds) = are.count in
      let known : length x.lists ≡ length (lists ds) = expands.all_lists in
      ap (rows_bits s) (get_or_past ready n [] (omega arith))
      ∙ ap (list_bits ds s) (sym (get_or_past x.lists n [] (omega arith)))

pub ready_means : (ds : List Decl) (ready : List (List ItemRow)) → AreReady ds ready → MeansLists ds ready
ready_means ds ready are = record { bits = λ x expands n s. list_means ds ready are x expands n s }

-- lists that were made, if there was memory for them
pub made_mean : {E : Type 0} (ds : List Decl) (made : Result (List (List ItemRow)) E) → IfOk made (AreReady ds) → IfOk made (MeansLists ds)
made_mean ds (Ok ready) are = ready_means ds ready are
made_mean ds (Err e) are = _

-- bits that were put, if there was memory for them
pub bits_mean : {E : Type 0} (ds : List Decl) (ready : List (List ItemRow)) (made : Result (List Bool) E) (s : State) (n : ℕ) → MeansLists ds ready → IfOk made (λ bits. bits ≡ rows_bits s (rows_at ready n)) → IfOk made (λ bits. (x : Expanded) → IsExpanded ds x → bits ≡ list_bits ds s (items_in_list x n))
bits_mean ds ready (Ok bits) s n means are = λ x expands. are ∙ means.bits x expands n s
bits_mean ds ready (Err e) s n means are = _
