-- What the rows of a list preserve is what the list does.
use Rattle.std.proofs.Common.{◌≡◌, ℕ, zero, suc, ◌≤◌, List, [], ◌∷◌, length, map, replicate, slice_get, Option, Some, None, option_map, refl, sym, ap, ap₂, ◌∙◌, arith}
use Rattle.std.specs.Option.{option_map_or}
use Rattle.std.specs.Prelude.{fold}
use Rattle.std.proofs.lemmas.List.{get_or_past, length-map}
use Rattle.p414_syntax.specs.declared.calculations.FieldList.{FieldList}
use Rattle.p414_syntax.specs.declared.calculations.Item.{Item}
use Rattle.p414_syntax.specs.declared.calculations.Item.TheVariants as item
use Rattle.p414_syntax.specs.declared.syntax.Decl.{Decl}
use Rattle.p414_syntax.specs.declared.syntax.Decl.TheVariants as decl
use Rattle.p414_syntax.specs.declared.syntax.Sort.TheVariants as sort
use Rattle.p414_syntax.specs.Views.{HeaderTypeTree}
use Rattle.p414_syntax.specs.Expansion.{lists, items_in}
use Rattle.p414_syntax.specs.Fields.{field_bits, type_of}
use Rattle.p414_syntax.specs.Names.{Name, declared_in}
use Rattle.p414_syntax.specs.Totals.{field_count, fields_of_type}
use Rattle.p414_sem.specs.Expanded.{Expanded, IsExpanded, items_in_list}
use Rattle.p414_sem.specs.Packing.{type_widths, widths_of_type}
use Rattle.p414_sem.specs.Passes.{Preserved, none_in, none_preserved, preserved_by, preserving_item, preserving_slot}
use Rattle.p414_sem.specs.Slots.{Slot, standard, declared, slot_of}
use Rattle.p414_sem.specs.State.{State}
use Rattle.p414_slots.specs.Shown.{slot_in, kept_slot}
use Rattle.p414_layout.specs.declared.shape.Shape.{Shape}
use Rattle.p414_layout.specs.Shapes.{layout_of, shape_in}
use Rattle.p414_field_lists.specs.declared.rows.ItemRow.{ItemRow}
use Rattle.p414_field_lists.specs.Meaning.{AreReady}
use Rattle.p414_field_lists.specs.Rows.{rows_at, rows_of}
use Rattle.p414_passes.specs.Kept.{kept_by, keeping_row, nothing_kept, nothing_of}

-- nothing

many_in : (t : Option HeaderTypeTree) → length (option_map_or type_widths t []) ≡ option_map_or field_count t 0
many_in (Some t) = length-map t.fields field_bits
many_in None = refl

fields_are : (ds : List Decl) (name : Name) → length (widths_of_type ds name) ≡ fields_of_type ds name
fields_are ds name = many_in (type_of ds name)

nothing_by : (ds rest : List Decl) → map nothing_of (map (shape_in ds) (declared_in sort.Instance rest)) ≡ map (none_in ds) (declared_in sort.Instance rest)
nothing_by ds [] = refl
nothing_by ds (decl.Header x ∷ rest) = ap (λ (q : Preserved). [] ∷ q) (nothing_by ds rest)
nothing_by ds (decl.Metadata x ∷ rest) =
    ap₂ (λ (n : ℕ) (q : Preserved). replicate n 0 ∷ q) (fields_are ds x.header_type) (nothing_by ds rest)
nothing_by ds (decl.HeaderType x ∷ rest) = nothing_by ds rest
nothing_by ds (decl.FieldList x ∷ rest) = nothing_by ds rest
nothing_by ds (decl.FieldListCalculation x ∷ rest) = nothing_by ds rest
nothing_by ds (decl.CalculatedField x ∷ rest) = nothing_by ds rest
nothing_by ds (decl.Parser x ∷ rest) = nothing_by ds rest
nothing_by ds (decl.Action x ∷ rest) = nothing_by ds rest
nothing_by ds (decl.Table x ∷ rest) = nothing_by ds rest
nothing_by ds (decl.Counter x ∷ rest) = nothing_by ds rest
nothing_by ds (decl.Meter x ∷ rest) = nothing_by ds rest
nothing_by ds (decl.Register x ∷ rest) = nothing_by ds rest
nothing_by ds (decl.Control x ∷ rest) = nothing_by ds rest
nothing_by ds (decl.LeftOut x ∷ rest) = nothing_by ds rest

pub nothing_is : (ds : List Decl) → nothing_kept (layout_of ds) ≡ none_preserved ds
nothing_is ds = nothing_by ds ds

-- the same of what a call makes of a layout
pub nothing_as : (ds : List Decl) (layout : List Shape) (q : Preserved) → layout ≡ layout_of ds → q ≡ nothing_kept layout → q ≡ none_preserved ds
nothing_as ds layout q same is = is ∙ ap nothing_kept same ∙ nothing_is ds

-- items

slot_back : (slot : Slot) → slot_in (kept_slot slot) ≡ slot
slot_back (standard which) = refl
slot_back (declared i e f) = refl

items_keep : (ds : List Decl) (s : State) (items : List Item) (q : Preserved) → fold (keeping_row s) q (rows_of ds items) ≡ fold (preserving_item ds s) q items
items_keep ds s [] q = refl
items_keep ds s (item.Payload ∷ items) q = items_keep ds s items q
items_keep ds s (item.Number n ∷ items) q = items_keep ds s items q
items_keep ds s (item.Field r ∷ items) q =
    ap (λ (slot : Slot). fold (keeping_row s) (preserving_slot s q slot) (rows_of ds items)) (slot_back (slot_of ds r))
    ∙ items_keep ds s items (preserving_slot s q (slot_of ds r))
items_keep ds s (item.Instance i ∷ items) q = items_keep ds s items q

-- lists

past : {X : Type 0} (xs : List X) (n : ℕ) → slice_get xs n ≡ None → length xs ≤ n
past [] n e = omega arith
past (x ∷ xs) zero e = absurd (cc e)
past (x ∷ xs) (suc n) e = let le = past xs n e in omega arith

rows_are : (ds : List Decl) (ready : List (List ItemRow)) → AreReady ds ready → (x : Expanded) → IsExpanded ds x → (n : ℕ) → rows_at ready n ≡ rows_of ds (items_in_list x n)
rows_are ds ready are x expands n = by_there (slice_get (lists ds) n) refl where
  by_there : (o : Option FieldList) → slice_get (lists ds) n ≡ o → rows_at ready n ≡ rows_of ds (items_in_list x n)
  by_there (Some f) is = (are.each n).rows f.items (items_in_list x n) (ap (option_map items_in) is) (expands.each_list n f.items (ap (option_map items_in) is))
  by_there None is =
      let le : length (lists ds) ≤ n = past (lists ds) n is in
      let many : length ready ≡ length (lists ds) = are.count in
      let known : length x.lists ≡ length (lists ds) = expands.all_lists in
      get_or_past ready n [] (omega arith) ∙ ap (rows_of ds) (sym (get_or_past x.lists n [] (omega arith)))

pub kept_as : (ds : List Decl) (x : Expanded) (ready : List (List ItemRow)) (s : State) (list : Option ℕ) → AreReady ds ready → IsExpanded ds x → kept_by (layout_of ds) ready s list ≡ preserved_by ds x s list
kept_as ds x ready s None are expands = nothing_is ds
kept_as ds x ready s (Some n) are expands =
    ap₂ (fold (keeping_row s)) (nothing_is ds) (rows_are ds ready are x expands n)
    ∙ items_keep ds s (items_in_list x n) (none_preserved ds)

-- the same of what a call keeps by a layout
pub list_kept_as : (ds : List Decl) (x : Expanded) (layout : List Shape) (ready : List (List ItemRow)) (s : State) (list : Option ℕ) (q : Preserved) → layout ≡ layout_of ds → AreReady ds ready → IsExpanded ds x → q ≡ kept_by layout ready s list → q ≡ preserved_by ds x s list
list_kept_as ds x layout ready s list q same are expands is =
    is ∙ ap (λ (l : List Shape). kept_by l ready s list) same ∙ kept_as ds x ready s list are expands
