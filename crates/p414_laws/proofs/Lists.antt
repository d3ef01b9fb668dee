-- What a field list comes to.
use Rattle.std.proofs.Common.{◌≡◌, ℕ, suc, zero, List, [], ◌∷◌, ◌++◌, Option, Some, None, option_and_then, refl, sym, ap, subst}
use Rattle.std.specs.Option.{option_map_or}
use Rattle.digraph.specs.Graphs.{Among}
use Rattle.p414_syntax.specs.declared.calculations.Item.{Item}
use Rattle.p414_syntax.specs.declared.syntax.Decl.{Decl}
use Rattle.p414_syntax.specs.Expansion.{held_by, inner_list, inner_number, inner_numbers, items_at, own_items, Expands, Nothing, Own, Inner}
use Rattle.p414_laws.specs.Expansion.{items_within}
use Rattle.p414_laws.proofs.Depths.{IsDeep}
use Rattle.p414_laws.proofs.Members.{among_first, among_rest}

module _ (ds : List Decl) where
  -- the lists that stand among these items are no deeper
  abbrev pub HoldDeep : ℕ → List Item → Type 0
  HoldDeep levels items = (n : ℕ) → Among n (inner_numbers ds items) → IsDeep (held_by ds) levels n

  -- the list with a number comes to what its items do
  abbrev Comes : ℕ → Type 0
  Comes levels =
      (n : ℕ) (items : List Item) → IsDeep (held_by ds) levels n → items_at ds n ≡ Some items
      → Expands ds items (items_within ds levels items)

  abbrev Found : Item → List Item → Type 0
  Found i items = (n : ℕ) × (inner_number ds i ≡ Some n) × (items_at ds n ≡ Some items)

  found_by : (i : Item) (items : List Item) (o : Option ℕ) → inner_number ds i ≡ o → option_and_then (items_at ds) o ≡ Some items → Found i items
  found_by i items None is e = absurd (cc e)
  found_by i items (Some n) is e = (n, is, e)

  one_more : (levels : ℕ) (i : Item) (rest : List Item) (o : Option (List Item)) → inner_list ds i ≡ o → Comes levels → HoldDeep levels (i ∷ rest)
      → Expands ds rest (items_within ds (suc levels) rest)
      → Expands ds (i ∷ rest) (option_map_or (items_within ds levels) o (own_items ds i) ++ items_within ds (suc levels) rest)
  one_more levels i rest None is comes deep behind = Own i rest (items_within ds (suc levels) rest) is behind
  one_more levels i rest (Some items) is comes deep behind =
      let f = found_by i items (inner_number ds i) refl is in
      Inner i rest items (items_within ds levels items) (items_within ds (suc levels) rest) is
      (comes f.0 items (deep f.0 (among_first f.0 (inner_number ds i) (inner_numbers ds rest) f.1)) f.2) behind

  all_come : (levels : ℕ) → Comes levels → (items : List Item) → HoldDeep levels items → Expands ds items (items_within ds (suc levels) items)
  all_come levels comes [] deep = Nothing
  all_come levels comes (i ∷ rest) deep =
      one_more levels i rest (inner_list ds i) refl comes deep
      (all_come levels comes rest (λ n h. deep n (among_rest n (inner_number ds i) (inner_numbers ds rest) h)))

  held_is : (n : ℕ) (items : List Item) → items_at ds n ≡ Some items → held_by ds n ≡ inner_numbers ds items
  held_is n items e = ap (λ (o : Option (List Item)). option_map_or (inner_numbers ds) o []) e

  list_comes : (levels : ℕ) → Comes levels
  list_comes zero n items deep is = absurd deep
  list_comes (suc levels) n items deep is =
      all_come levels (list_comes levels) items (λ m h. deep m (subst (Among m) (sym (held_is n items is)) h))

  -- so do items, the lists among which are no deeper
  pub items_come : (levels : ℕ) (items : List Item) → HoldDeep levels items → Expands ds items (items_within ds (suc levels) items)
  items_come levels items deep = all_come levels (list_comes levels) items deep
