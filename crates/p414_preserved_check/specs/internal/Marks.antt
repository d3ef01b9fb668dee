-- Of each field list whether it comes to an item of one kind when it is expanded.
use Rattle.std.specs.Prelude.{◌≡◌, ℕ, Bool, false, cond, not, ◌&&◌, nat_lt, is_some, is_none, List, map, slice_index, Option, Some}
use Rattle.std.specs.List.{list_any}
use Rattle.std.specs.Option.{option_map_or}
use Rattle.p414_syntax.specs.declared.calculations.FieldList.{FieldList}
use Rattle.p414_syntax.specs.declared.calculations.Item.{Item}
use Rattle.p414_syntax.specs.declared.syntax.Decl.{Decl}
use Rattle.p414_syntax.specs.Names.{Name}
use Rattle.p414_syntax.specs.Expansion.{lists, list_number, items_at, inner_number, own_items, Expands}

-- an item that is no list comes to an item of this kind by itself
abbrev pub own_has : List Decl → (Item → Bool) → Item → Bool
own_has ds by i = cond (is_some (inner_number ds i)) false (by i)

-- 1 for each list that has such an item, else 0
abbrev pub one_if : Bool → ℕ
one_if b = cond b 1 0

abbrev pub own_mark : List Decl → (Item → Bool) → FieldList → ℕ
own_mark ds by l = one_if (list_any (own_has ds by) l.items)

abbrev pub own_marks : List Decl → (Item → Bool) → List ℕ
own_marks ds by = map (own_mark ds by) (lists ds)

-- what an item comes to by itself has an item of this kind
pub record AsksOwn (ds : List Decl) (p by : Item → Bool) : Type 0 where
  pub asks : (i : Item) → by i ≡ list_any p (own_items ds i)

-- each list comes to some items, and its mark is 1 where one of them is of this kind, else 0
pub record AreMarks (ds : List Decl) (p : Item → Bool) (marks : List ℕ) : Type 0 where
  pub comes : (l : ℕ) (items : List Item) → items_at ds l ≡ Some items → (all : List Item) × Expands ds items all
  pub mark : (l : ℕ) (items all : List Item) → items_at ds l ≡ Some items → Expands ds items all
      → slice_index marks l ≡ one_if (list_any p all)

-- the list with this number is marked, and the one with this name
abbrev pub is_marked : List ℕ → ℕ → Bool
is_marked marks l = nat_lt 0 (slice_index marks l)

abbrev pub marked_by : List ℕ → Option ℕ → Bool
marked_by marks o = option_map_or (is_marked marks) o false

abbrev pub is_marked_name : List Decl → List ℕ → Name → Bool
is_marked_name ds marks name = marked_by marks (list_number ds name)

-- no list has the name
abbrev pub is_missing : List Decl → Name → Bool
is_missing ds name = is_none (list_number ds name)

-- lists have all these names, and one of them is marked
abbrev pub joins_marked : List Decl → List ℕ → List Name → Bool
joins_marked ds marks names = not (list_any (is_missing ds) names) && list_any (is_marked_name ds marks) names
