-- The items of an expanded list are there (C2, C4, C8, C25).
use Rattle.std.proofs.Common.{◌≡◌, inl, inr, ℕ, ◌<◌, Bool, true, false, cond, Option, Some, None, List, [], ◌++◌, length, map, slice_get, refl, sym, ap, ◌∙◌, subst, arith}
use Rattle.std.specs.Prelude.{is_some, is_none, option_and_then, option_map, unwrap_or}
use Rattle.std.specs.List.{AllByRecursion, list_any}
use Rattle.std.specs.Option.{option_map_or}
use Rattle.std.proofs.lemmas.List.{length-map}
use Rattle.std.proofs.lemmas.Option.{slice_get_within}
use Rattle.p414_syntax.specs.declared.calculations.FieldList.{FieldList}
use Rattle.p414_syntax.specs.declared.calculations.Item.{Item}
use Rattle.p414_syntax.specs.declared.calculations.Item.TheVariants as item
use Rattle.p414_syntax.specs.declared.parts.Inst.{Inst}
use Rattle.p414_syntax.specs.declared.parts.Ref.{Ref}
use Rattle.p414_syntax.specs.declared.syntax.Decl.{Decl}
use Rattle.p414_syntax.specs.declared.syntax.Decl.TheVariants as decl
use Rattle.p414_syntax.specs.Views.{HeaderTypeTree}
use Rattle.p414_syntax.specs.Names.{Name, find_name, field_name}
use Rattle.p414_syntax.specs.Primitives.{is_standard, ports, counts}
use Rattle.p414_syntax.specs.Breaks.{BreaksNone, program_rules}
use Rattle.p414_syntax.specs.Fields.{instance_of, instance_type, type_of, type_name_in, field_bits}
use Rattle.p414_syntax.specs.Expansion.{list_in, lists, items_in, items_at, inner_number, inner_list, type_fields, fields_of, field_item, own_items, Expands}
use Rattle.p414_syntax.specs.Expansion.Expands.{Nothing, Own, Inner}
use Rattle.p414_syntax.specs.Lists.{is_bare_item, has_bare_number, is_bad_calculated, calculated_fields}
use Rattle.p414_syntax.specs.Stacks.{declares_bad_size, is_bad_instance, is_misplaced}
use Rattle.p414_syntax.specs.Uses.{of_field, of_item, uses_of_item, uses_of, uses}
use Rattle.p414_sem.specs.Expanded.{Expanded, IsExpanded, items_in_list}
use Rattle.p414_sem.specs.Packing.{type_widths}
use Rattle.p414_sem.specs.Slots.{standard, standard_field, declared_slot}
use Rattle.lower_laws_states.specs.Standing.{SlotStands, ItemStands}
use Rattle.lower_laws_states.specs.Expansions.{Has}
use Rattle.lower_laws_states.proofs.Members.{neither, none_passes, each_has, has_joined, picked_has, has_at}
use Rattle.lower_laws_states.proofs.Rules.{stacks_right, fields_right}
use Rattle.lower_laws_states.proofs.Filling.{has_found}
use Rattle.lower_laws_states.proofs.Expansion.{each_joined, each_mapped}
use Rattle.lower_laws_states.proofs.Standing.{IsFound, field_stands, placed_stands}

-- an item that stands in the text
record IsOfList (ds : List Decl) (i : Item) : Type 0 where
  list : FieldList
  declared : Has (lists ds) list
  there : Has list.items i

declared_list : (d : Decl) (l : FieldList) → list_in d ≡ Some l → d ≡ decl.FieldList l
declared_list (decl.FieldList x) l e = ap decl.FieldList (cc e)
declared_list _ l e = absurd (cc e)

list_has : (ds : List Decl) (l : FieldList) → Has (lists ds) l → Has ds (decl.FieldList l)
list_has ds l h = let d = picked_has list_in ds l h in subst (Has ds) (declared_list d.0 l d.2) d.1

at_list : (ds : List Decl) (n : ℕ) (items : List Item) → items_at ds n ≡ Some items → AllByRecursion (IsOfList ds) items
at_list ds n items e = by (slice_get (lists ds) n) refl e where
  by : (o : Option FieldList) → slice_get (lists ds) n ≡ o → option_map items_in o ≡ Some items → AllByRecursion (IsOfList ds) items
  by None is e = absurd (cc e)
  by (Some l) is e = subst (AllByRecursion (IsOfList ds)) (cc e) (each_has (IsOfList ds) l.items (λ i h. record { list = l; declared = has_at (lists ds) n l is; there = h }))

inner_of : (ds : List Decl) (i : Item) (items : List Item) → inner_list ds i ≡ Some items → AllByRecursion (IsOfList ds) items
inner_of ds i items e = by (inner_number ds i) e where
  by : (o : Option ℕ) → option_and_then (items_at ds) o ≡ Some items → AllByRecursion (IsOfList ds) items
  by None e = absurd (cc e)
  by (Some n) e = at_list ds n items e

-- each of the five fields of standard metadata
five_stand : (ds : List Decl) (r : Ref) → Has (ports ++ counts) r.field → SlotStands ds (option_map_or standard (standard_field r.field) (declared_slot ds r))
five_stand ds r h = by r.field h where
  by : (field : Name) → Has (ports ++ counts) field → SlotStands ds (option_map_or standard (standard_field field) (declared_slot ds r))
  by field (inl e) = subst (λ (name : Name). SlotStands ds (option_map_or standard (standard_field name) (declared_slot ds r))) e tt
  by field (inr (inl e)) = subst (λ (name : Name). SlotStands ds (option_map_or standard (standard_field name) (declared_slot ds r))) e tt
  by field (inr (inr (inl e))) = subst (λ (name : Name). SlotStands ds (option_map_or standard (standard_field name) (declared_slot ds r))) e tt
  by field (inr (inr (inr (inl e)))) = subst (λ (name : Name). SlotStands ds (option_map_or standard (standard_field name) (declared_slot ds r))) e tt
  by field (inr (inr (inr (inr (inl e))))) = subst (λ (name : Name). SlotStands ds (option_map_or standard (standard_field name) (declared_slot ds r))) e tt
  by field (inr (inr (inr (inr (inr none))))) = absurd none

-- a field of an instance's type
listed_found : (ds : List Decl) (name field : Name) → Has (option_map_or type_fields (instance_type ds name) []) field → IsFound ds name field
listed_found ds name field h = by (instance_of ds name) refl (instance_type ds name) refl h where
  typed : (t : HeaderTypeTree) → Has (type_fields t) field → unwrap_or (find_name (type_fields t) field) (length (type_fields t)) < length (type_widths t)
  typed t h =
      let k = has_found (type_fields t) field h in
      subst (λ (o : Option ℕ). unwrap_or o (length (type_fields t)) < length (type_widths t)) (sym k.1)
      (omega (arith, slice_get_within (type_fields t) k.0 field k.2, length-map t.fields field_bits, length-map t.fields field_name))

  whole : (o : Option HeaderTypeTree) → Has (option_map_or type_fields o []) field → unwrap_or (find_name (option_map_or type_fields o []) field) (length (option_map_or type_fields o [])) < length (option_map_or type_widths o [])
  whole None h = absurd h
  whole (Some t) h = typed t h

  by : (d : Option Decl) → instance_of ds name ≡ d → (o : Option HeaderTypeTree) → instance_type ds name ≡ o → Has (option_map_or type_fields o []) field → IsFound ds name field
  by None is o e h = absurd (subst (λ (p : Option HeaderTypeTree). Has (option_map_or type_fields p []) field) (sym e ∙ ap (λ (d : Option Decl). option_and_then (type_of ds) (option_and_then type_name_in d)) is) h)
  by (Some d) is o e h = record { instance = d; is = is; within = whole (instance_type ds name) (subst (λ (p : Option HeaderTypeTree). Has (option_map_or type_fields p []) field) (sym e) h) }

module _ (ds : List Decl) (none : BreaksNone ds program_rules) where
  fields_stand : (i : Inst) → is_bad_instance ds i ≡ false → AllByRecursion (ItemStands ds) (map (field_item i) (fields_of ds i.name))
  fields_stand i right = each_mapped (ItemStands ds) (field_item i) (fields_of ds i.name) (λ field h. by (is_standard i.name) field h) where
    by : (b : Bool) (field : Name) → Has (cond b (ports ++ counts) (option_map_or type_fields (instance_type ds i.name) [])) field → SlotStands ds (cond b (option_map_or standard (standard_field field) (declared_slot ds (record { instance = i; field = field }))) (declared_slot ds (record { instance = i; field = field })))
    by true field h = five_stand ds (record { instance = i; field = field }) h
    by false field h = placed_stands ds none (record { instance = i; field = field }) (listed_found ds i.name field h) right

  own_stand : (i : Item) → IsOfList ds i → inner_list ds i ≡ None → AllByRecursion (ItemStands ds) (own_items ds i)
  own_stand item.Payload is e = (tt, tt)
  own_stand (item.Number n) is e = (sized n.width (none_passes is_bare_item is.list.items (item.Number n) (none_passes has_bare_number ds (decl.FieldList is.list) (neither (list_any has_bare_number ds) (list_any (is_bad_calculated ds) (calculated_fields ds)) (fields_right ds none)).0 (list_has ds is.list is.declared)) is.there), tt) where
    sized : (o : Option ℕ) → is_none o ≡ false → is_some o ≡ true
    sized None e = absurd (cc e)
    sized (Some w) e = refl
  own_stand (item.Field r) is e = (field_stands ds none r (has_joined uses_of ds (decl.FieldList is.list) (of_field r) (list_has ds is.list is.declared) (has_joined uses_of_item is.list.items (item.Field r) (of_field r) is.there (inl refl))), tt)
  own_stand (item.Instance i) is e =
      let used : Has (uses ds) (of_item i) = has_joined uses_of ds (decl.FieldList is.list) (of_item i) (list_has ds is.list is.declared) (has_joined uses_of_item is.list.items (item.Instance i) (of_item i) is.there (inl refl)) in
      fields_stand i (none_passes (is_misplaced ds) (uses ds) (of_item i) (neither (list_any declares_bad_size ds) _ (stacks_right ds none)).1 used)

  items_stand : (items all : List Item) → Expands ds items all → AllByRecursion (IsOfList ds) items → AllByRecursion (ItemStands ds) all
  items_stand _ _ Nothing each = tt
  items_stand _ _ (Own i rest all e more) each = each_joined (ItemStands ds) (own_items ds i) all (own_stand i each.0 e) (items_stand rest all more each.1)
  items_stand _ _ (Inner i rest items within all e inner more) each = each_joined (ItemStands ds) within all (items_stand items within inner (inner_of ds i items e)) (items_stand rest all more each.1)

  -- what a list comes to
  pub accepted_items : (x : Expanded) → IsExpanded ds x → (n : ℕ) (items : List Item) → items_at ds n ≡ Some items → AllByRecursion (ItemStands ds) (items_in_list x n)
  accepted_items x is n items e = items_stand items (items_in_list x n) (is.each_list n items e) (at_list ds n items e)
