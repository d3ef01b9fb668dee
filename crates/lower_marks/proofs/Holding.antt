-- The marks of a field are those of the lists that hold it.
use Rattle.std.proofs.Common.{◌≡◌, ◌≢◌, ◌⊎◌, inl, inr, ℕ, zero, suc, ◌+◌, ◌-◌, ◌<◌, ◌≤◌, nat_eq, Bool, true, false, cond, ◌||◌, if◌then◌else◌, List, [], ◌∷◌, ◌++◌, length, get_or, drop, map, filter, slice_get, Option, Some, None, option_map, refl, sym, ap, ap₂, ◌∙◌, subst, arith}
use Rattle.std.specs.List.{list_any}
use Rattle.std.proofs.lemmas.Bool.Decides.{eqb_tells}
use Rattle.std.proofs.lemmas.List.{append_assoc, append-nil, drop_more, get_or_past, length-append}
use Rattle.std.proofs.lemmas.List.Folds.{list_any-append}
use Rattle.p414_syntax.specs.declared.calculations.FieldList.{FieldList}
use Rattle.p414_syntax.specs.declared.calculations.Item.{Item}
use Rattle.p414_syntax.specs.declared.calculations.Item.TheVariants as item
use Rattle.p414_syntax.specs.declared.syntax.Decl.{Decl}
use Rattle.p414_syntax.specs.declared.syntax.Sort.TheVariants as sort
use Rattle.p414_syntax.specs.Names.{Name, has_name, names_in}
use Rattle.p414_syntax.specs.Expansion.{lists, items_at, items_in}
use Rattle.p414_syntax.specs.Preserved.{preserved_lists}
use Rattle.p414_sem.specs.Slots.{Slot, standard, declared, slot_of}
use Rattle.p414_sem.specs.Expanded.{Expanded, IsExpanded, items_in_list}
use Rattle.p414_slots.specs.Shown.{slot_in, kept_slot}
use Rattle.p414_field_lists.specs.declared.rows.ItemRow.{ItemRow}
use Rattle.p414_field_lists.specs.Meaning.{AreReady}
use Rattle.p414_field_lists.specs.Rows.{item_rows, rows_of, rows_at}
use Rattle.agreement_of_meanings.specs.Agrees.{Marked}
use Rattle.lower_laws_names.specs.Marks.{marks_from, marks, is_field, is_item, holds, mark_number, marks_of_field}
use Rattle.lower_marks.specs.declared.marks.Marked.{Marked as MarkedRow}
use Rattle.lower_marks.specs.Marking.{marked_in}
use Rattle.lower_marks.specs.FieldMarks.{AreMarks, is_that, ends_in, with_mark, marked_where, marks_at, marks_in, marks_where, row_is, rows_hold}

-- the last mark

last_got : (marks : List ℕ) (n : ℕ) → slice_get (marks ++ n ∷ []) (length marks) ≡ Some n
last_got [] n = refl
last_got (m ∷ marks) n = last_got marks n

ends_behind : (marks : List ℕ) (n m : ℕ) → ends_in (marks ++ n ∷ []) m ≡ nat_eq n m
ends_behind marks n m =
    let a : length (marks ++ n ∷ []) ≡ length marks + 1 = length-append marks (n ∷ []) in
    let b : length (marks ++ n ∷ []) - 1 ≡ length marks = omega (arith, a) in
    ap (λ k. is_that (slice_get (marks ++ n ∷ []) k) m) b ∙ ap (λ (o : Option ℕ). is_that o m) (last_got marks n)

itself : (n : ℕ) → nat_eq n n ≡ true
itself n = by (eqb_tells n n) where
  by : ((nat_eq n n ≡ true) × (n ≡ n)) ⊎ ((nat_eq n n ≡ false) × (n ≢ n)) → nat_eq n n ≡ true
  by (inl (e, same)) = e
  by (inr (e, other)) = absurd (other refl)

-- a mark that is put twice is put once

again : (marks : List ℕ) (mark : ℕ) → with_mark (with_mark marks mark) mark ≡ with_mark marks mark
again marks mark = by (ends_in marks mark) refl where
  by : (b : Bool) → ends_in marks mark ≡ b → with_mark (if b then marks else marks ++ mark ∷ []) mark ≡ (if b then marks else marks ++ mark ∷ [])
  by true e = ap (λ (b : Bool). if b then marks else marks ++ mark ∷ []) e
  by false e = ap (λ (b : Bool). if b then marks ++ mark ∷ [] else (marks ++ mark ∷ []) ++ mark ∷ []) (ends_behind marks mark mark ∙ itself mark)

marked_twice : (a b : Bool) (marks : List ℕ) (mark : ℕ) → marked_where b (marked_where a marks mark) mark ≡ marked_where (a || b) marks mark
marked_twice true true marks mark = again marks mark
marked_twice true false marks mark = refl
marked_twice false b marks mark = refl

-- turns of the loops

pub list_turn : (rows : List ItemRow) (i : ℕ) (d : ItemRow) (old new whole : List (List (List ℕ))) (mark : ℕ) → i < length rows → ((k f : ℕ) → marks_at (marks_in new k) f ≡ marked_where (row_is k f (get_or rows i d)) (marks_at (marks_in old k) f) mark) → ((k f : ℕ) → marked_where (list_any (row_is k f) (drop i rows)) (marks_at (marks_in old k) f) mark ≡ marked_where (list_any (row_is k f) rows) (marks_at (marks_in whole k) f) mark) → (k f : ℕ) → marked_where (list_any (row_is k f) (drop (i + 1) rows)) (marks_at (marks_in new k) f) mark ≡ marked_where (list_any (row_is k f) rows) (marks_at (marks_in whole k) f) mark
list_turn rows i d old new whole mark h is same k f =
    ap (λ l. marked_where (list_any (row_is k f) (drop (i + 1) rows)) l mark) (is k f)
    ∙ marked_twice (row_is k f (get_or rows i d)) (list_any (row_is k f) (drop (i + 1) rows)) (marks_at (marks_in old k) f) mark
    ∙ sym (ap (λ xs. marked_where (list_any (row_is k f) xs) (marks_at (marks_in old k) f) mark) (drop_more rows i d h))
    ∙ same k f

pub lists_turn : (ready : List (List ItemRow)) (marked : List MarkedRow) (i : ℕ) (d : MarkedRow) (old new : List (List (List ℕ))) → i < length marked → ((k f : ℕ) → marks_at (marks_in new k) f ≡ marked_where (rows_hold ready k f (marked_in (get_or marked i d))) (marks_at (marks_in old k) f) (get_or marked i d).number) → ((k f : ℕ) → marks_where (rows_hold ready k f) (map marked_in (drop i marked)) (marks_at (marks_in old k) f) ≡ marks_where (rows_hold ready k f) (map marked_in marked) []) → (k f : ℕ) → marks_where (rows_hold ready k f) (map marked_in (drop (i + 1) marked)) (marks_at (marks_in new k) f) ≡ marks_where (rows_hold ready k f) (map marked_in marked) []
lists_turn ready marked i d old new h is same k f =
    ap (marks_where (rows_hold ready k f) (map marked_in (drop (i + 1) marked))) (is k f)
    ∙ sym (ap (λ ms. marks_where (rows_hold ready k f) (map marked_in ms) (marks_at (marks_in old k) f)) (drop_more marked i d h))
    ∙ same k f

none_left : {X : Type 0} (xs : List X) (i : ℕ) → length xs ≤ i → drop i xs ≡ []
none_left [] zero h = refl
none_left [] (suc i) h = refl
none_left (x ∷ xs) zero h = absurd (omega arith)
none_left (x ∷ xs) (suc i) h = none_left xs i (omega arith)

pub list_end : (rows : List ItemRow) (i : ℕ) (new whole : List (List (List ℕ))) (mark : ℕ) → length rows ≤ i → ((k f : ℕ) → marked_where (list_any (row_is k f) (drop i rows)) (marks_at (marks_in new k) f) mark ≡ marked_where (list_any (row_is k f) rows) (marks_at (marks_in whole k) f) mark) → (k f : ℕ) → marks_at (marks_in new k) f ≡ marked_where (list_any (row_is k f) rows) (marks_at (marks_in whole k) f) mark
list_end rows i new whole mark h same k f =
    sym (ap (λ xs. marked_where (list_any (row_is k f) xs) (marks_at (marks_in new k) f) mark) (none_left rows i h)) ∙ same k f

pub lists_end : (ready : List (List ItemRow)) (marked : List MarkedRow) (i : ℕ) (new : List (List (List ℕ))) → length marked ≤ i → ((k f : ℕ) → marks_where (rows_hold ready k f) (map marked_in (drop i marked)) (marks_at (marks_in new k) f) ≡ marks_where (rows_hold ready k f) (map marked_in marked) []) → (k f : ℕ) → marks_at (marks_in new k) f ≡ marks_where (rows_hold ready k f) (map marked_in marked) []
lists_end ready marked i new h same k f =
    sym (ap (λ ms. marks_where (rows_hold ready k f) (map marked_in ms) (marks_at (marks_in new k) f)) (none_left marked i h)) ∙ same k f

-- the rows of a list by its number
pub rows_marked : (ready : List (List ItemRow)) (rows : List ItemRow) (n : ℕ) (old new : List (List (List ℕ))) (mark : ℕ) → rows ≡ rows_at ready n → ((k f : ℕ) → marks_at (marks_in new k) f ≡ marked_where (list_any (row_is k f) rows) (marks_at (marks_in old k) f) mark) → (k f : ℕ) → marks_at (marks_in new k) f ≡ marked_where (list_any (row_is k f) (rows_at ready n)) (marks_at (marks_in old k) f) mark
rows_marked ready rows n old new mark same is k f =
    is k f ∙ ap (λ xs. marked_where (list_any (row_is k f) xs) (marks_at (marks_in old k) f) mark) same

-- rows and items

or_false : (b : Bool) → (b || false) ≡ b
or_false true = refl
or_false false = refl

kept_is : (s : Slot) → slot_in (kept_slot s) ≡ s
kept_is (standard which) = refl
kept_is (declared i e f) = refl

module _ (ds : List Decl) (k f : ℕ) where
  item_is : (i : Item) → list_any (row_is k f) (item_rows ds i) ≡ is_item ds k f i
  item_is item.Payload = refl
  item_is (item.Number n) = refl
  item_is (item.Field r) = or_false (is_field k f (slot_in (kept_slot (slot_of ds r)))) ∙ ap (is_field k f) (kept_is (slot_of ds r))
  item_is (item.Instance i) = refl

  items_are : (items : List Item) → list_any (row_is k f) (rows_of ds items) ≡ list_any (is_item ds k f) items
  items_are [] = refl
  items_are (i ∷ items) =
      list_any-append (row_is k f) (item_rows ds i) (rows_of ds items) ∙ ap₂ (λ a b. a || b) (item_is i) (items_are items)

  -- a list by its number

  past : {X : Type 0} (xs : List X) (n : ℕ) → slice_get xs n ≡ None → length xs ≤ n
  past [] n e = omega arith
  past (x ∷ xs) zero e = absurd (cc e)
  past (x ∷ xs) (suc n) e = omega (arith, past xs n e)

  module _ (x : Expanded) (ready : List (List ItemRow)) (expanded : IsExpanded ds x) (are : AreReady ds ready) where
    list_is : (n : ℕ) → list_any (row_is k f) (rows_at ready n) ≡ list_any (is_item ds k f) (items_in_list x n)
    list_is n = by (slice_get (lists ds) n) refl where
      by : (o : Option FieldList) → slice_get (lists ds) n ≡ o → list_any (row_is k f) (rows_at ready n) ≡ list_any (is_item ds k f) (items_in_list x n)
      by None e =
          let lt = past (lists ds) n e in
          let no_rows : rows_at ready n ≡ [] = get_or_past ready n [] (omega (arith, lt, are.count)) in
          let no_items : items_in_list x n ≡ [] = get_or_past x.lists n [] (omega (arith, lt, expanded.all_lists)) in
          ap (list_any (row_is k f)) no_rows ∙ sym (ap (list_any (is_item ds k f)) no_items)
      by (Some l) e =
          let there : items_at ds n ≡ Some l.items = ap (option_map items_in) e in
          ap (list_any (row_is k f)) ((are.each n).rows l.items (items_in_list x n) there (expanded.each_list n l.items there))
          ∙ items_are (items_in_list x n)

-- marks of lists

where_same : (p q : Marked → Bool) → ((m : Marked) → p m ≡ q m) → (ms : List Marked) (marks : List ℕ) → marks_where p ms marks ≡ marks_where q ms marks
where_same p q same [] marks = refl
where_same p q same (m ∷ ms) marks =
    ap (λ (b : Bool). marks_where p ms (marked_where b marks m.number)) (same m) ∙ where_same p q same ms (marked_where (q m) marks m.number)

-- no mark from this one on is the last
abbrev IsBelow : List ℕ → ℕ → Type 0
IsBelow marks number = (m : ℕ) → number ≤ m → ends_in marks m ≡ false

below_next : (marks : List ℕ) (number : ℕ) → IsBelow marks number → IsBelow marks (number + 1)
below_next marks number below m le = below m (omega (arith, le))

put_below : (marks : List ℕ) (number : ℕ) → IsBelow (marks ++ number ∷ []) (number + 1)
put_below marks number m le = ends_behind marks number m ∙ by (eqb_tells number m) where
  by : ((nat_eq number m ≡ true) × (number ≡ m)) ⊎ ((nat_eq number m ≡ false) × (number ≢ m)) → nat_eq number m ≡ false
  by (inl (e, same)) = absurd (omega (arith, le, same))
  by (inr (e, other)) = e

module _ (p : Marked → Bool) where
  abbrev Comes : List Marked → List ℕ → Type 0
  Comes ms marks = marks_where p ms marks ≡ marks ++ map mark_number (filter p ms)

  marked_next : (m : Marked) (ms : List Marked) (marks : List ℕ) → IsBelow marks m.number → ((more : List ℕ) → IsBelow more (m.number + 1) → Comes ms more) → Comes (m ∷ ms) marks
  marked_next m ms marks below rest = by (p m) where
    by : (b : Bool) → marks_where p ms (marked_where b marks m.number) ≡ marks ++ map mark_number (cond b (m ∷ filter p ms) (filter p ms))
    by true =
        ap (marks_where p ms) (ap (λ (b : Bool). if b then marks else marks ++ m.number ∷ []) (below m.number (omega arith)))
        ∙ rest (marks ++ m.number ∷ []) (put_below marks m.number)
        ∙ append_assoc marks (m.number ∷ []) (map mark_number (filter p ms))
    by false = rest marks (below_next marks m.number below)

  all_marked : (preserved names : List Name) (list number : ℕ) (marks : List ℕ) → IsBelow marks number → Comes (marks_from preserved list number names) marks
  all_marked preserved [] list number marks below = sym (append-nil marks)
  all_marked preserved (name ∷ names) list number marks below = by (has_name preserved name) (all_marked preserved names (list + 1)) where
    by : (b : Bool) → ((n : ℕ) (more : List ℕ) → IsBelow more n → Comes (marks_from preserved (list + 1) n names) more) → Comes (cond b (record { list = list; number = number } ∷ marks_from preserved (list + 1) (number + 1) names) (marks_from preserved (list + 1) number names)) marks
    by true rest = marked_next (record { list = list; number = number }) (marks_from preserved (list + 1) (number + 1) names) marks below (rest (number + 1))
    by false rest = rest number marks below

nothing_below : (number : ℕ) → IsBelow [] number
nothing_below number m le = refl

-- the table has the marks of each field
pub all_held : (ds : List Decl) (ready : List (List ItemRow)) (marked : List Marked) (found : List (List (List ℕ))) → AreReady ds ready → marked ≡ marks ds → ((k f : ℕ) → marks_at (marks_in found k) f ≡ marks_where (rows_hold ready k f) marked []) → (x : Expanded) → IsExpanded ds x → AreMarks ds x found
all_held ds ready marked found are known is x expanded k f =
    is k f
    ∙ ap (λ ms. marks_where (rows_hold ready k f) ms []) known
    ∙ where_same (rows_hold ready k f) (holds ds x k f) (λ m. list_is ds k f x ready expanded are m.list) (marks ds) []
    ∙ all_marked (holds ds x k f) (preserved_lists ds) (names_in sort.List ds) 0 1 [] (nothing_below 1)
