-- `payload` in front of another item, asked of lists that aren't expanded.
use Rattle.std.specs.Prelude.{ℕ, Bool, false, not, ◌||◌, ◌&&◌, List, [], ◌∷◌, Option, Some, None}
use Rattle.std.specs.List.{list_any}
use Rattle.p414_syntax.specs.declared.calculations.FieldList.{FieldList}
use Rattle.p414_syntax.specs.declared.calculations.Item.{Item}
use Rattle.p414_syntax.specs.declared.syntax.Decl.{Decl}
use Rattle.p414_syntax.specs.Names.{Name}
use Rattle.p414_syntax.specs.Expansion.{lists, inner_number}
use Rattle.p414_syntax.specs.Payloads.{is_payload}
use Rattle.p414_preserved_check.specs.internal.Marks.{is_marked, is_marked_name, is_missing}
use Rattle.p414_preserved_check.specs.internal.Asking.{fills_by}

-- what an item comes to has an item of this kind, given the marks of the lists
abbrev pub comes_by : (Item → Bool) → List ℕ → Item → Option ℕ → Bool
comes_by by marks i (Some l) = is_marked marks l
comes_by by marks i None = by i

abbrev pub item_comes : List Decl → (Item → Bool) → List ℕ → Item → Bool
item_comes ds by marks i = comes_by by marks i (inner_number ds i)

-- a part that pays stands in front of one that fills, or something that pays stands in front of all
abbrev pub early_from : {X : Type 0} → (X → Bool) → (X → Bool) → Bool → List X → Bool
early_from pays fills paid [] = false
early_from pays fills paid (x ∷ rest) = (paid && fills x) || early_from pays fills (paid || pays x) rest

-- a list, by its own items, has `payload` in front of another item
abbrev pub early_items : List Decl → List ℕ → List ℕ → Bool → List Item → Bool
early_items ds pays fills paid items = early_from (item_comes ds is_payload pays) (item_comes ds (fills_by ds) fills) paid items

abbrev pub is_early : List Decl → List ℕ → List ℕ → FieldList → Bool
is_early ds pays fills l = early_items ds pays fills false l.items

abbrev pub some_early : List Decl → List ℕ → List ℕ → Bool
some_early ds pays fills = list_any (is_early ds pays fills) (lists ds)

-- the same of lists with these names, joined; none where no list has a name
abbrev pub early_names : List Decl → List ℕ → List ℕ → Bool → List Name → Bool
early_names ds pays fills paid names = early_from (is_marked_name ds pays) (is_marked_name ds fills) paid names

abbrev pub is_early_input : List Decl → List ℕ → List ℕ → List Name → Bool
is_early_input ds pays fills names = not (list_any (is_missing ds) names) && early_names ds pays fills false names
