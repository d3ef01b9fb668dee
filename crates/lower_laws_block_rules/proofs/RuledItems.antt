-- Numbers in what a calculation sums have a width, where those of the lists of the program have one.
use Rattle.std.proofs.Common.{◌≡◌, ℕ, List, [], ◌∷◌, ◌++◌, map, flat_map, Option, Some, None, refl, sym, ap, subst, arith}
use Rattle.std.specs.Prelude.{option_map, option_and_then, slice_get}
use Rattle.std.specs.List.{AllByRecursion}
use Rattle.std.specs.Option.{option_map_or}
use Rattle.std.proofs.lemmas.List.{get_or_past}
use Rattle.p414_syntax.specs.declared.calculations.FieldList.{FieldList}
use Rattle.p414_syntax.specs.declared.calculations.FieldListCalculation.{FieldListCalculation}
use Rattle.p414_syntax.specs.declared.calculations.Item.{Item}
use Rattle.p414_syntax.specs.declared.calculations.Item.TheVariants as item
use Rattle.p414_syntax.specs.declared.parts.Inst.{Inst}
use Rattle.p414_syntax.specs.declared.syntax.Decl.{Decl}
use Rattle.p414_syntax.specs.Expansion.{lists, items_in, items_at, list_number, inner_number, inner_list, field_item, fields_of, own_items, Expands, Nothing, Own, Inner}
use Rattle.p414_syntax.specs.Lists.{calculation_of}
use Rattle.p414_syntax.specs.Names.{Name}
use Rattle.p414_sem.specs.Calculations.{items_named, joined_calculation, no_calculation, calculation_named}
use Rattle.p414_sem.specs.Expanded.{Expanded, IsExpanded, items_in_list}
use Rattle.lower_laws_states.proofs.Members.{none_past}
use Rattle.lower_laws_block_rules.specs.Sums.{ItemWide}

both_lists : (xs ys : List Item) → AllByRecursion ItemWide xs → AllByRecursion ItemWide ys → AllByRecursion ItemWide (xs ++ ys)
both_lists [] ys a b = b
both_lists (x ∷ xs) ys a b = (a.0, both_lists xs ys a.1 b)

-- a number of a list has a width prefix (C8) of 1 to 128 bits (as it is read)
abbrev pub ListsWide : List Decl → Type 0
ListsWide ds = (n : ℕ) (items : List Item) → items_at ds n ≡ Some items → AllByRecursion ItemWide items

module _ (ds : List Decl) (wide : ListsWide ds) where
  fields_wide : (i : Inst) (names : List Name) → AllByRecursion ItemWide (map (field_item i) names)
  fields_wide i [] = tt
  fields_wide i (name ∷ names) = (tt, fields_wide i names)

  own_wide : (i : Item) → ItemWide i → AllByRecursion ItemWide (own_items ds i)
  own_wide (item.Instance i) is = fields_wide i (fields_of ds i.name)
  own_wide (item.Number n) is = (is, tt)
  own_wide (item.Field r) is = (tt, tt)
  own_wide item.Payload is = (tt, tt)

  inner_wide : (i : Item) (items : List Item) → inner_list ds i ≡ Some items → AllByRecursion ItemWide items
  inner_wide i items e = by (inner_number ds i) e where
    by : (o : Option ℕ) → option_and_then (items_at ds) o ≡ Some items → AllByRecursion ItemWide items
    by None e = absurd (cc e)
    by (Some n) e = wide n items e

  expands_wide : (items all : List Item) → Expands ds items all → AllByRecursion ItemWide items → AllByRecursion ItemWide all
  expands_wide _ _ Nothing is = tt
  expands_wide _ _ (Own i rest all e more) is = both_lists (own_items ds i) all (own_wide i is.0) (expands_wide rest all more is.1)
  expands_wide _ _ (Inner i rest items within all e inner more) is = both_lists within all (expands_wide items within inner (inner_wide i items e)) (expands_wide rest all more is.1)

  module _ (x : Expanded) (is : IsExpanded ds x) where
    list_wide : (n : ℕ) → AllByRecursion ItemWide (items_in_list x n)
    list_wide n = by (slice_get (lists ds) n) refl where
      by : (o : Option FieldList) → slice_get (lists ds) n ≡ o → AllByRecursion ItemWide (items_in_list x n)
      by (Some l) e = let at : items_at ds n ≡ Some l.items = ap (option_map items_in) e in expands_wide l.items (items_in_list x n) (is.each_list n l.items at) (wide n l.items at)
      by None e = subst (AllByRecursion ItemWide) (sym (get_or_past x.lists n [] (let past = none_past (lists ds) n e in let all = is.all_lists in omega (arith, past, all)))) tt

    named_wide : (names : List Name) → AllByRecursion ItemWide (flat_map (items_named ds x) names)
    named_wide [] = tt
    named_wide (name ∷ names) = both_lists (items_named ds x name) _ (by (list_number ds name)) (named_wide names) where
      by : (o : Option ℕ) → AllByRecursion ItemWide (option_map_or (items_in_list x) o [])
      by None = tt
      by (Some n) = list_wide n

    -- what a calculation sums
    pub calculation_wide : (name : Name) → AllByRecursion ItemWide (calculation_named ds x name).items
    calculation_wide name = by (calculation_of ds name) where
      by : (o : Option FieldListCalculation) → AllByRecursion ItemWide (option_map_or (joined_calculation ds x) o no_calculation).items
      by None = tt
      by (Some k) = named_wide k.input
