-- Turns of the loops that ask whether rows can be written, and what lengths of rows tell.
use Rattle.std.proofs.Common.{◌≡◌, ℕ, ◌+◌, ◌<◌, ◌≤◌, List, [], ◌∷◌, length, get_or, drop, map, sym, ap, ◌∙◌, subst, arith}
use Rattle.std.proofs.lemmas.List.{drop_all, drop_more, length-map}
use Rattle.p414_ready_actions.specs.declared.rows.ReadyPrimitive.{ReadyPrimitive}
use Rattle.agreement_of_meanings.specs.Shown.{Shown, fields_of, shown_at}
use Rattle.lower_laws_base.specs.Context.{Words}
use Rattle.lower_rows.specs.declared.calculations.HashItem.{HashItem}
use Rattle.lower_rows.specs.declared.instances.InstanceRow.{InstanceRow}
use Rattle.lower_rows.specs.Named.{instance_shown, named_field, object_named}
use Rattle.lower_expressions.specs.declared.table.WordsTable.{WordsTable}
use Rattle.lower_expressions.specs.Table.{words_in}
use Rattle.lower_expressions.proofs.Numbered.{fields_are}
use Rattle.lower_primitives.specs.Has.{ItemHas, ItemsHave, RowHas, RowsHave}

-- lengths

pub instance_within : (t : WordsTable) (k : ℕ) → k < length t.instances.now → k < length (words_in t).names.instances
instance_within t k lt = subst (λ n. k < n) (sym (length-map t.instances.now instance_shown)) lt

pub object_within : (t : WordsTable) (k : ℕ) → k < length t.objects.now → k < length (words_in t).objects
object_within t k lt = subst (λ n. k < n) (sym (length-map t.objects.now object_named)) lt

pub parameter_within : (t : WordsTable) (k : ℕ) → k < length t.parameters.now → k < length (words_in t).parameters
parameter_within t k lt = subst (λ n. k < n) (sym (length-map t.parameters.now named_field)) lt

pub field_within : (x : InstanceRow) (s : Shown) (k : ℕ) → instance_shown x ≡ s → k < length x.fields → k < length (fields_of s)
field_within x s k is lt =
    subst (λ n. k < n) (sym (length-map x.fields named_field) ∙ ap length (sym (fields_are x)) ∙ ap (λ (y : Shown). length (fields_of y)) is) lt

-- rows: where those that are left have it, all have

pub row_more : (t : WordsTable) (rows : List ReadyPrimitive) (i : ℕ) (d : ReadyPrimitive) → i < length rows → RowHas t (get_or rows i d) → (RowsHave t (drop i rows) → RowsHave t rows) → RowsHave t (drop (i + 1) rows) → RowsHave t rows
row_more t rows i d lt here all rest = all (subst (RowsHave t) (sym (drop_more rows i d lt)) (here, rest))

pub rows_end : (t : WordsTable) (rows : List ReadyPrimitive) (i : ℕ) → length rows ≤ i → (RowsHave t (drop i rows) → RowsHave t rows) → RowsHave t rows
rows_end t rows i le all = all (subst (RowsHave t) (sym (drop_all i rows le)) tt)

pub item_more : (w : Words) (items : List HashItem) (i : ℕ) (d : HashItem) → i < length items → ItemHas w (get_or items i d) → (ItemsHave w (drop i items) → ItemsHave w items) → ItemsHave w (drop (i + 1) items) → ItemsHave w items
item_more w items i d lt here all rest = all (subst (ItemsHave w) (sym (drop_more items i d lt)) (here, rest))

pub items_end : (w : Words) (items : List HashItem) (i : ℕ) → length items ≤ i → (ItemsHave w (drop i items) → ItemsHave w items) → ItemsHave w items
items_end w items i le all = all (subst (ItemsHave w) (sym (drop_all i items le)) tt)
