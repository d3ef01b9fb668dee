-- The items of a hash: fields that are there, numbers that fit their widths, and no payload (C2, C8, C20).
use Rattle.std.proofs.Common.{◌≡◌, inl, inr, ℕ, ◌<◌, true, false, Option, Some, None, List, [], ◌∷◌, length, map, slice_get, refl, sym, ap, ◌∙◌, subst}
use Rattle.std.specs.Prelude.{IfSome, flat_map, is_some, option_map, option_and_then}
use Rattle.std.specs.List.{AllByRecursion, list_any}
use Rattle.std.specs.Option.{option_map_or}
use Rattle.std.proofs.lemmas.List.Concat.{flat_map-cons}
use Rattle.std.proofs.lemmas.Option.{slice_get-get_or}
use Rattle.p414_syntax.specs.declared.calculations.FieldList.{FieldList}
use Rattle.p414_syntax.specs.declared.calculations.FieldListCalculation.{FieldListCalculation}
use Rattle.p414_syntax.specs.declared.calculations.Item.{Item}
use Rattle.p414_syntax.specs.declared.calculations.Item.TheVariants as item
use Rattle.p414_syntax.specs.declared.syntax.Decl.{Decl}
use Rattle.p414_syntax.specs.declared.syntax.Decl.TheVariants as decl
use Rattle.p414_syntax.specs.declared.syntax.Sort.TheVariants as sort
use Rattle.p414_syntax.specs.declared.place.ArgumentPlace.{ArgumentPlace}
use Rattle.p414_syntax.specs.declared.place.ArgumentPlace.TheVariants as place
use Rattle.p414_syntax.specs.Names.{Name, find_name, names_in, number_of, numbered, is_declared}
use Rattle.p414_syntax.specs.Breaks.{BreaksNone, program_rules}
use Rattle.p414_syntax.specs.Actions.{hashed_lists, lists_at, lists_hashed_at}
use Rattle.p414_syntax.specs.Arguments.{Argument, name_argument, all_invocations, placed_in, placed_argument, placed_arguments}
use Rattle.p414_syntax.specs.Expansion.{list_in, lists, list_name, list_number, items_in, items_at, inner_number, inner_list, fields_of, field_item, own_items, Expands, Joins}
use Rattle.p414_syntax.specs.Expansion.Expands.{Nothing, Own, Inner}
use Rattle.p414_syntax.specs.Lists.{calculation_in, calculation_of, input_names}
use Rattle.p414_syntax.specs.Payloads.{is_payload, all_hashed}
use Rattle.p414_syntax.specs.Unknown.{is_unknown}
use Rattle.p414_syntax.specs.Uses.{of_sort, uses_of, uses}
use Rattle.p414_sem.specs.Calculations.{Calculation, items_named, joined_calculation, no_calculation}
use Rattle.p414_sem.specs.Expanded.{Expanded, IsExpanded, items_in_list}
use Rattle.lower_laws_states.specs.Standing.{ItemStands}
use Rattle.lower_laws_states.specs.Expansions.{Has}
use Rattle.lower_laws_states.proofs.Members.{neither, of_not, not_true, none_passes, each_has, has_each, has_at, has_mapped, has_joined, joined_has, picked_has}
use Rattle.lower_laws_states.proofs.Rules.{none_unknown}
use Rattle.lower_laws_states.proofs.Declared.{numbered_has}
use Rattle.lower_laws_states.proofs.Expansion.{each_joined, each_mapped}
use Rattle.lower_laws_states.proofs.Named.{list_within}
use Rattle.lower_laws_states.proofs.Items.{accepted_items}
use Rattle.lower_laws_premises.specs.Literals.{IsSpelt, IsFittingItem}
use Rattle.lower_laws_premises.specs.Counts.{IsHashed}
use Rattle.lower_laws_premises.proofs.Literals.{item_fits}
use Rattle.lower_laws_premises.proofs.Rules.{none_hashed}

declared_list : (d : Decl) (l : FieldList) → list_in d ≡ Some l → d ≡ decl.FieldList l
declared_list (decl.FieldList x) l e = ap decl.FieldList (cc e)
declared_list _ l e = absurd (cc e)

declared_calculation : (d : Decl) (f : FieldListCalculation) → calculation_in d ≡ Some f → d ≡ decl.FieldListCalculation f
declared_calculation (decl.FieldListCalculation x) f e = ap decl.FieldListCalculation (cc e)
declared_calculation _ f e = absurd (cc e)

pub list_names : (ds : List Decl) → names_in sort.List ds ≡ map list_name (lists ds)
list_names [] = refl
list_names (decl.FieldList x ∷ ds) = ap (λ l. x.name ∷ l) (list_names ds)
list_names (_ ∷ ds) = list_names ds

pub calculation_has : (ds : List Decl) (name : Name) (f : FieldListCalculation) → calculation_of ds name ≡ Some f → Has ds (decl.FieldListCalculation f)
calculation_has ds name f e = by (number_of sort.Calculation ds name) e where
  at : (k : ℕ) (o : Option Decl) → numbered sort.Calculation ds k ≡ o → option_and_then calculation_in o ≡ Some f → Has ds (decl.FieldListCalculation f)
  at k None is e = absurd (cc e)
  at k (Some d) is e = subst (Has ds) (declared_calculation d f e) (numbered_has ds sort.Calculation k d is)

  by : (o : Option ℕ) → option_and_then calculation_in (option_and_then (numbered sort.Calculation ds) o) ≡ Some f → Has ds (decl.FieldListCalculation f)
  by None e = absurd (cc e)
  by (Some k) e = at k (numbered sort.Calculation ds k) refl e

-- numbers in lists

module _ (ds : List Decl) (spelt : IsSpelt ds) where
  list_fits : (l : FieldList) → Has (lists ds) l → AllByRecursion IsFittingItem l.items
  list_fits l h = each_has IsFittingItem l.items (λ i there. by i there) where
    declared : Has ds (decl.FieldList l)
    declared = let d = picked_has list_in ds l h in subst (Has ds) (declared_list d.0 l d.2) d.1

    by : (i : Item) → Has l.items i → IsFittingItem i
    by (item.Number n) there = item_fits ds spelt l n declared there
    by item.Payload there = tt
    by (item.Field r) there = tt
    by (item.Instance j) there = tt

  pub at_list : (n : ℕ) (items : List Item) → items_at ds n ≡ Some items → AllByRecursion IsFittingItem items
  at_list n items e = by (slice_get (lists ds) n) refl e where
    by : (o : Option FieldList) → slice_get (lists ds) n ≡ o → option_map items_in o ≡ Some items → AllByRecursion IsFittingItem items
    by None is e = absurd (cc e)
    by (Some l) is e = subst (AllByRecursion IsFittingItem) (cc e) (list_fits l (has_at (lists ds) n l is))

  inner_fit : (i : Item) (items : List Item) → inner_list ds i ≡ Some items → AllByRecursion IsFittingItem items
  inner_fit i items e = by (inner_number ds i) e where
    by : (o : Option ℕ) → option_and_then (items_at ds) o ≡ Some items → AllByRecursion IsFittingItem items
    by None e = absurd (cc e)
    by (Some n) e = at_list n items e

  own_fit : (i : Item) → IsFittingItem i → AllByRecursion IsFittingItem (own_items ds i)
  own_fit item.Payload is = (tt, tt)
  own_fit (item.Number n) is = (is, tt)
  own_fit (item.Field r) is = (tt, tt)
  own_fit (item.Instance j) is = each_mapped IsFittingItem (field_item j) (fields_of ds j.name) (λ field h. tt)

  pub items_fit : (items all : List Item) → Expands ds items all → AllByRecursion IsFittingItem items → AllByRecursion IsFittingItem all
  items_fit _ _ Nothing each = tt
  items_fit _ _ (Own i rest all e more) each = each_joined IsFittingItem (own_items ds i) all (own_fit i each.0) (items_fit rest all more each.1)
  items_fit _ _ (Inner i rest items within all e inner more) each = each_joined IsFittingItem within all (items_fit items within inner (inner_fit i items e)) (items_fit rest all more each.1)

module _ (ds : List Decl) (none : BreaksNone ds program_rules) (spelt : IsSpelt ds) (x : Expanded) (is : IsExpanded ds x) where
  -- a list that is declared
  pub record Comes (name : Name) : Type 0 where
    pub number : ℕ
    pub named : list_number ds name ≡ Some number
    pub items : List Item
    pub at : items_at ds number ≡ Some items

  at_number : (name : Name) (n : ℕ) → list_number ds name ≡ Some n → Comes name
  at_number name n e = by (slice_get (lists ds) n) refl where
    within : n < length (lists ds)
    within = subst (λ (o : Option ℕ). IfSome o (λ l. l < length (lists ds))) e (list_within ds name)

    by : (o : Option FieldList) → slice_get (lists ds) n ≡ o → Comes name
    by None at = absurd (cc (at, slice_get-get_or (lists ds) n (record { name = []; items = [] }) within))
    by (Some l) at = record { number = n; named = e; items = l.items; at = ap (option_map items_in) at }

  pub comes : (f : FieldListCalculation) → Has ds (decl.FieldListCalculation f) → (name : Name) → Has f.input name → Comes name
  comes f h name there = by (list_number ds name) refl where
    used : Has (uses ds) (of_sort sort.List name)
    used = has_joined uses_of ds (decl.FieldListCalculation f) (of_sort sort.List name) h (has_mapped (of_sort sort.List) f.input name there)

    declared : is_some (find_name (map list_name (lists ds)) name) ≡ true
    declared = ap (λ (l : List Name). is_some (find_name l name)) (sym (list_names ds)) ∙ of_not (is_declared sort.List ds name) (none_passes (is_unknown ds) (uses ds) (of_sort sort.List name) (neither (list_any (is_unknown ds) (uses ds)) _ (none_unknown ds none)).0 used)

    by : (o : Option ℕ) → list_number ds name ≡ o → Comes name
    by None e = absurd (cc (ap is_some e, declared))
    by (Some n) e = at_number name n e

  pub items_are : (name : Name) (k : Comes name) → items_named ds x name ≡ items_in_list x k.number
  items_are name k = ap (λ (o : Option ℕ). option_map_or (items_in_list x) o []) k.named

  -- lists that are joined
  pub joined : (names : List Name) → ((name : Name) → Has names name → Comes name) → Joins ds names (flat_map (items_named ds x) names)
  joined [] each = refl
  joined (name ∷ names) each =
      let k = each name (inl refl) in (
        items_named ds x name,
        flat_map (items_named ds x) names,
        record { items = k.items; named = ap (option_and_then (items_at ds)) k.named ∙ k.at; expands = subst (Expands ds k.items) (sym (items_are name k)) (is.each_list k.number k.items k.at) },
        joined names (λ other h. each other (inr h)),
        flat_map-cons (items_named ds x) name names,
      )

  -- the lists that hashes are over
  hashed_comes : (name : Name) → Has (all_hashed ds) name → Comes name
  hashed_comes name h =
      let call = joined_has (hashed_lists ds) (all_invocations ds) name h in
      let a = joined_has (lists_hashed_at ds) (placed_in ds call.0) name call.2 in
      listed a.0.wanted a.0.argument a.2
    where
      of_calculation : (called : Name) → Has (option_map_or input_names (calculation_of ds called) []) name → Comes name
      of_calculation called h = by (calculation_of ds called) refl h where
        by : (o : Option FieldListCalculation) → calculation_of ds called ≡ o → Has (option_map_or input_names o []) name → Comes name
        by None e h = absurd h
        by (Some f) e h = comes f (calculation_has ds called f e) name h

      listed : (p : ArgumentPlace) (b : Argument) → Has (lists_at ds p b) name → Comes name
      listed place.Calculation (name_argument i) h = of_calculation i.name h
      listed _ _ h = absurd h

  -- no payload is in them
  none_paid : (i : Item) → Has (flat_map (items_named ds x) (all_hashed ds)) i → is_payload i ≡ false
  none_paid i h = none_passes is_payload (flat_map (items_named ds x) (all_hashed ds)) i (not_true (list_any is_payload (flat_map (items_named ds x) (all_hashed ds))) (λ e. none_hashed ds none (flat_map (items_named ds x) (all_hashed ds), joined (all_hashed ds) hashed_comes, e))) h

  -- an item of a hash
  pub record IsHashItem (i : Item) : Type 0 where
    pub stands : ItemStands ds i
    pub fits : IsFittingItem i
    pub unpaid : is_payload i ≡ false

  hashed_name : (inst : _) → Has (placed_arguments ds) (placed_argument place.Calculation (name_argument inst)) → (name : Name) → Has (option_map_or input_names (calculation_of ds inst.name) []) name → Has (all_hashed ds) name
  hashed_name inst h name k =
      let call = joined_has (placed_in ds) (all_invocations ds) (placed_argument place.Calculation (name_argument inst)) h in
      has_joined (hashed_lists ds) (all_invocations ds) call.0 name call.1 (has_joined (lists_hashed_at ds) (placed_in ds call.0) (placed_argument place.Calculation (name_argument inst)) name call.2 k)

  pub hash_items : (c : Calculation) → IsHashed ds x c → AllByRecursion IsHashItem c.items
  hash_items c hashed = subst (λ (d : Calculation). AllByRecursion IsHashItem d.items) (sym hashed.is) (by (calculation_of ds hashed.inst.name) refl) where
    listed : (f : FieldListCalculation) → calculation_of ds hashed.inst.name ≡ Some f → (i : Item) → Has (flat_map (items_named ds x) f.input) i → IsHashItem i
    listed f e i h =
        let name = joined_has (items_named ds x) f.input i h in
        let k = comes f (calculation_has ds hashed.inst.name f e) name.0 name.1 in
        let there = subst (λ (l : List Item). Has l i) (items_are name.0 k) name.2 in
        record {
          stands = has_each (ItemStands ds) (items_in_list x k.number) i (accepted_items ds none x is k.number k.items k.at) there;
          fits = has_each IsFittingItem (items_in_list x k.number) i (items_fit ds spelt k.items (items_in_list x k.number) (is.each_list k.number k.items k.at) (at_list ds spelt k.number k.items k.at)) there;
          unpaid = none_paid i (has_joined (items_named ds x) (all_hashed ds) name.0 i (hashed_name hashed.inst hashed.written name.0 (subst (λ (o : Option FieldListCalculation). Has (option_map_or input_names o []) name.0) (sym e) name.1)) name.2);
        }

    by : (o : Option FieldListCalculation) → calculation_of ds hashed.inst.name ≡ o → AllByRecursion IsHashItem (option_map_or (joined_calculation ds x) o no_calculation).items
    by None e = tt
    by (Some f) e = each_has IsHashItem (flat_map (items_named ds x) f.input) (listed f e)
