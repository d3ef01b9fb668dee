-- The items of preserved lists name fields of metadata without an index (C4), and marks tell them.
use Rattle.std.proofs.Common.{◌≡◌, ℕ, ◌+◌, ◌<◌, ◌≤◌, true, ◌||◌, Option, Some, None, List, [], ◌∷◌, length, refl, sym, ap, ◌∙◌, subst, arith}
use Rattle.std.specs.Prelude.{slice_get, option_map}
use Rattle.std.specs.List.{list_any, AllByRecursion}
use Rattle.std.proofs.lemmas.List.{get_or_past}
use Rattle.std.proofs.lemmas.Option.{get_or_from_slice_get}
use Rattle.p414_syntax.specs.declared.calculations.FieldList.{FieldList}
use Rattle.p414_syntax.specs.declared.calculations.Item.{Item}
use Rattle.p414_syntax.specs.declared.calculations.Item.TheVariants as item
use Rattle.p414_syntax.specs.declared.syntax.Decl.{Decl}
use Rattle.p414_syntax.specs.declared.syntax.Decl.TheVariants as decl14
use Rattle.p414_syntax.specs.declared.syntax.Sort.TheVariants as sort
use Rattle.p414_syntax.specs.Names.{declared_in, numbered}
use Rattle.p414_syntax.specs.Fields.{size_in}
use Rattle.p414_syntax.specs.Totals.{elements_of}
use Rattle.p414_syntax.specs.Expansion.{lists, items_in}
use Rattle.p414_sem.specs.Slots.{Slot, standard, declared, slot_of}
use Rattle.p414_sem.specs.Expanded.{Expanded, IsExpanded, items_in_list}
use Rattle.agreement_of_meanings.specs.Shown.{Shown, as_header, as_stack, as_metadata, is_metadata, shown_at}
use Rattle.lower_laws_names.specs.Instances.{shown_instances}
use Rattle.lower_laws_names.specs.Marks.{is_item as is_item_here}
use Rattle.lower_laws_states.specs.Standing.{SlotStands, ItemStands}
use Rattle.lower_laws_states.specs.Laws.{BreaksNo}
use Rattle.lower_laws_states.proofs.Members.{none_past}
use Rattle.lower_laws_states.proofs.Items.{accepted_items}
use Rattle.lower_laws_base.specs.Types.{ShownDecl}
use Rattle.lower_laws_passes.specs.Preserving.{AtFirst, ItemAtFirst, ItemsAtFirst, is_item}
use Rattle.lower_laws_declared.specs.Layout.{member_at}
use Rattle.lower_laws_declared.proofs.Members.{shown_is, member_is_shown}

same_item : (ds : List Decl) (k f : ℕ) (i : Item) → is_item_here ds k f i ≡ is_item ds k f i
same_item ds k f (item.Field r) = by (slot_of ds r) where
  by : (s : Slot) → Rattle.lower_laws_names.specs.Marks.is_field k f s ≡ Rattle.lower_laws_passes.specs.Preserving.is_field k f s
  by (standard which) = refl
  by (declared i e g) = refl
same_item ds k f item.Payload = refl
same_item ds k f (item.Number n) = refl
same_item ds k f (item.Instance i) = refl

pub same_items : (ds : List Decl) (k f : ℕ) (items : List Item) → list_any (is_item_here ds k f) items ≡ list_any (is_item ds k f) items
same_items ds k f [] = refl
same_items ds k f (i ∷ items) = rw (same_item ds k f i, same_items ds k f items) refl

module _ (ds : List Decl) where
  -- an instance that is shown as metadata has one element
  one_element : (k : ℕ) (d : Decl) → numbered sort.Instance ds k ≡ Some d → k < length (shown_instances ds) → is_metadata (shown_at (shown_instances ds) k) ≡ true → (e : ℕ) → e < elements_of (size_in d) → e ≡ 0
  one_element k d there lt is e within =
      by d (member_at ds k).shown (subst (λ (c : Decl). ShownDecl ds c (member_at ds k).shown (member_at ds k).size) (get_or_from_slice_get (declared_in sort.Instance ds) k d d there) (member_is_shown ds k lt d))
      (ap is_metadata (sym (shown_is ds k)) ∙ is) within
    where
      by : (c : Decl) (s : Shown) → ShownDecl ds c s (member_at ds k).size → is_metadata s ≡ true → e < elements_of (size_in c) → e ≡ 0
      by (decl14.Metadata m) (as_metadata n fs) shows is within = omega (arith, within)
      by (decl14.Header m) (as_metadata n fs) shows is within = absurd shows
      by c (as_header n fs) shows is within = absurd (cc is)
      by c (as_stack n fs) shows is within = absurd (cc is)
      by _ (as_metadata n fs) shows is within = absurd shows

  slot_first : (k : ℕ) → k < length (shown_instances ds) → is_metadata (shown_at (shown_instances ds) k) ≡ true → (s : Slot) → SlotStands ds s → AtFirst k s
  slot_first k lt is (standard which) there = tt
  slot_first k lt is (declared i e g) there = λ same.
      one_element k there.instance (ap (numbered sort.Instance ds) (sym same) ∙ there.numbered_so) lt is e there.element

  item_first : (k : ℕ) → k < length (shown_instances ds) → is_metadata (shown_at (shown_instances ds) k) ≡ true → (i : Item) → ItemStands ds i → ItemAtFirst ds k i
  item_first k lt is (item.Field r) there = slot_first k lt is (slot_of ds r) there
  item_first k lt is item.Payload there = tt
  item_first k lt is (item.Number n) there = tt
  item_first k lt is (item.Instance i) there = tt

  items_first : (k : ℕ) → k < length (shown_instances ds) → is_metadata (shown_at (shown_instances ds) k) ≡ true → (items : List Item) → AllByRecursion (ItemStands ds) items → ItemsAtFirst ds k items
  items_first k lt is [] there = tt
  items_first k lt is (i ∷ items) there = (item_first k lt is i there.0, items_first k lt is items there.1)

  -- C2, C4, C8, C25
  pub lists_first : BreaksNo ds → (x : Expanded) → IsExpanded ds x → (list k : ℕ) → k < length (shown_instances ds) → is_metadata (shown_at (shown_instances ds) k) ≡ true → ItemsAtFirst ds k (items_in_list x list)
  lists_first none x expanded list k lt is = by (slice_get (lists ds) list) refl where
    by : (o : Option FieldList) → slice_get (lists ds) list ≡ o → ItemsAtFirst ds k (items_in_list x list)
    by (Some l) e = items_first k lt is (items_in_list x list) (accepted_items ds none x expanded list (items_in l) (ap (option_map items_in) e))
    by None e =
        let past : length x.lists ≤ list = omega (arith, none_past (lists ds) list e, expanded.all_lists) in
        subst (ItemsAtFirst ds k) (sym (get_or_past x.lists list [] past)) tt
