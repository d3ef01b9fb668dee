-- What a field list has in it when the lists within it are expanded (P4_14 1.0.5, "Field Lists").
use Rattle.std.specs.Prelude.{◌≡◌, ℕ, ◌||◌, if◌then◌else◌, is_some, List, [], ◌∷◌, ◌++◌, map, filter_map, slice_get, Option, Some, None, option_and_then, option_map}
use Rattle.std.specs.Option.{option_map_or}
use Rattle.p414_syntax.specs.declared.parts.Inst.{Inst}
use Rattle.p414_syntax.specs.declared.calculations.FieldList.{FieldList}
use Rattle.p414_syntax.specs.declared.calculations.Item.{Item}
use Rattle.p414_syntax.specs.declared.calculations.Item.TheVariants as item
use Rattle.p414_syntax.specs.declared.syntax.Decl.{Decl}
use Rattle.p414_syntax.specs.declared.syntax.Decl.TheVariants as decl
use Rattle.p414_syntax.specs.Views.{HeaderTypeTree}
use Rattle.p414_syntax.specs.Names.{Name, find_name, field_name}
use Rattle.p414_syntax.specs.Primitives.{is_standard, ports, counts}
use Rattle.p414_syntax.specs.Fields.{is_instance, instance_type}

-- the field lists of a program, and their names, in order
abbrev pub list_in : Decl → Option FieldList
list_in (decl.FieldList x) = Some x
list_in _ = None

abbrev pub lists : List Decl → List FieldList
lists ds = filter_map list_in ds

abbrev pub list_name : FieldList → Name
list_name l = l.name

-- the number of the field list with this name
abbrev pub list_number : List Decl → Name → Option ℕ
list_number ds name = find_name (map list_name (lists ds)) name

-- the items of the field list with this number, and of the one with this name
abbrev pub items_in : FieldList → List Item
items_in l = l.items

abbrev pub items_at : List Decl → ℕ → Option (List Item)
items_at ds l = option_map items_in (slice_get (lists ds) l)

abbrev pub items_of : List Decl → Name → Option (List Item)
items_of ds name = option_and_then (items_at ds) (list_number ds name)

-- The number of the list that an item stands for: a name without an index that no instance has, but a field list.
abbrev pub inner_by_name : List Decl → Inst → Option ℕ
inner_by_name ds i = if is_instance ds i.name || is_some i.index then None else list_number ds i.name

abbrev pub inner_number : List Decl → Item → Option ℕ
inner_number ds (item.Instance i) = inner_by_name ds i
inner_number ds _ = None

-- the items of that list
abbrev pub inner_list : List Decl → Item → Option (List Item)
inner_list ds i = option_and_then (items_at ds) (inner_number ds i)

-- the numbers of the lists that stand in a list, in order
abbrev pub inner_numbers : List Decl → List Item → List ℕ
inner_numbers ds items = filter_map (inner_number ds) items

abbrev pub held_by : List Decl → ℕ → List ℕ
held_by ds l = option_map_or (inner_numbers ds) (items_at ds l) []

-- the names of an instance's fields, in order; those of `standard_metadata` are five
abbrev pub type_fields : HeaderTypeTree → List Name
type_fields t = map field_name t.fields

abbrev pub fields_of : List Decl → Name → List Name
fields_of ds name =
    if is_standard name then ports ++ counts else option_map_or type_fields (instance_type ds name) []

abbrev pub field_item : Inst → Name → Item
field_item i field = item.Field (record { instance = i; field = field })

-- what an item stands for by itself: an instance for all its fields, anything else but a list for itself
abbrev pub own_items : List Decl → Item → List Item
own_items ds (item.Instance i) = map (field_item i) (fields_of ds i.name)
own_items ds other = other ∷ []

-- The items that a list comes to: each item by itself, or what the list that it stands for comes to.
pub data Expands (ds : List Decl) : List Item → List Item → Type 0 where
  Nothing : Expands ds [] []
  Own : (i : Item) (rest all : List Item) → inner_list ds i ≡ None
      → Expands ds rest all → Expands ds (i ∷ rest) (own_items ds i ++ all)
  Inner : (i : Item) (rest items within all : List Item) → inner_list ds i ≡ Some items
      → Expands ds items within → Expands ds rest all → Expands ds (i ∷ rest) (within ++ all)

-- the list with this name comes to these items
pub record ComesTo (ds : List Decl) (name : Name) (all : List Item) : Type 0 where
  pub items : List Item
  pub named : items_of ds name ≡ Some items
  pub expands : Expands ds items all

-- the lists with these names, expanded and joined in order
abbrev pub Joins : List Decl → List Name → List Item → Type 0
Joins ds [] all = all ≡ []
Joins ds (name ∷ names) all =
    (first : List Item) × (rest : List Item) × ComesTo ds name first × Joins ds names rest × (all ≡ first ++ rest)
