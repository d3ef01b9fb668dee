-- `payload` in front of another item of an expanded list, told from the lists that aren't expanded.
use Rattle.std.proofs.Common.{◌≡◌, ℕ, ◌⊎◌, inl, inr, ⊎_elim, Bool, true, false, not, ◌||◌, ◌&&◌, List, [], ◌∷◌, ◌++◌, map, slice_get, Some, None, option_map, refl, sym, ap, ◌∙◌}
use Rattle.std.specs.List.{list_any}
use Rattle.std.proofs.lemmas.Bool.{and_parts, and_from, or_cases, or_left, or_right, not-true, not_from_false, both_ways, false_from_ne_true}
use Rattle.p414_syntax.specs.declared.parts.Inst.{Inst}
use Rattle.p414_syntax.specs.declared.calculations.Item.{Item}
use Rattle.p414_syntax.specs.declared.calculations.Item.TheVariants as item
use Rattle.p414_syntax.specs.declared.syntax.Decl.{Decl}
use Rattle.p414_syntax.specs.Names.{Name}
use Rattle.p414_syntax.specs.Arguments.{all_invocations}
use Rattle.p414_syntax.specs.Distinct.{distinct}
use Rattle.p414_syntax.specs.Exact.{IsExact}
use Rattle.p414_syntax.specs.Expansion.{lists, list_number, items_in, items_at, inner_number, inner_list, own_items, fields_of, field_item, Expands, Nothing, Own, Inner, ComesTo, Joins}
use Rattle.p414_syntax.specs.Payloads.{is_payload, has_early_payload, ListHasEarlyPayload, inputs, InputHasEarlyPayload, all_hashed, HasBadPayload}
use Rattle.p414_list_check.proofs.Expanding.{is_alone, list_of}
use Rattle.p414_preserved_check.specs.internal.Marks.{AsksOwn, AreMarks, is_marked_name, is_missing, joins_marked}
use Rattle.p414_preserved_check.specs.internal.Asking.{is_anything, fills_by}
use Rattle.p414_preserved_check.specs.internal.Early.{comes_by, item_comes, early_from, is_early, some_early, is_early_input}
use Rattle.p414_preserved_check.proofs.Searching.{or_nothing, there_any, any_there, any_contains, contains_any}
use Rattle.p414_preserved_check.proofs.Own.{payload_asks, fills_asks}
use Rattle.p414_preserved_check.specs.declared.named.Wanted.TheVariants.{Calculation}
use Rattle.p414_preserved_check.specs.internal.Named.{named_by, inputs_marked}
use Rattle.p414_preserved_check.proofs.NamedLists.{hashed_marked}
use Rattle.p414_preserved_check.proofs.Marking.{exact_by, exact_same, marked_is, named_of, named_is, never_missing_all, join_all, or_same, joins_is, joins_back}

-- the same, of items behind some that have `payload` or not

abbrev pub early_behind : Bool → List Item → Bool
early_behind paid [] = false
early_behind paid (x ∷ xs) = paid || early_behind (is_payload x) xs

early_is : (xs : List Item) → has_early_payload xs ≡ early_behind false xs
early_is [] = refl
early_is (x ∷ []) = refl
early_is (x ∷ next ∷ rest) = ap (λ (b : Bool). is_payload x || b) (early_is (next ∷ rest))

append_one : (paid : Bool) (x : Item) (xs ys : List Item) → early_behind (is_payload x) (xs ++ ys) ≡ (early_behind (is_payload x) xs || early_behind (is_payload x || list_any is_payload xs) ys) → early_behind paid (x ∷ (xs ++ ys)) ≡ (early_behind paid (x ∷ xs) || early_behind (paid || list_any is_payload (x ∷ xs)) ys)
append_one true x xs ys h = refl
append_one false x xs ys h = h

early_append : (paid : Bool) (xs ys : List Item) → early_behind paid (xs ++ ys) ≡ (early_behind paid xs || early_behind (paid || list_any is_payload xs) ys)
early_append paid [] ys = ap (λ (b : Bool). early_behind b ys) (or_nothing paid)
early_append paid (x ∷ xs) ys = append_one paid x xs ys (early_append (is_payload x) xs ys)

early_part : (paid : Bool) (xs : List Item) → early_behind paid xs ≡ ((paid && list_any is_anything xs) || early_behind false xs)
early_part true [] = refl
early_part true (x ∷ xs) = refl
early_part false xs = refl

-- what an item comes to by itself has no `payload` in front

fields_late : (i : Inst) (names : List Name) → early_behind false (map (field_item i) names) ≡ false
fields_late i [] = refl
fields_late i (n ∷ names) = fields_late i names

own_late : (ds : List Decl) (i : Item) → early_behind false (own_items ds i) ≡ false
own_late ds (item.Instance i) = fields_late i (fields_of ds i.name)
own_late ds item.Payload = refl
own_late ds (item.Number n) = refl
own_late ds (item.Field r) = refl

-- what an item comes to

own_comes : (ds : List Decl) (p by : Item → Bool) → AsksOwn ds p by → (marks : List ℕ) (i : Item) → inner_list ds i ≡ None → item_comes ds by marks i ≡ list_any p (own_items ds i)
own_comes ds p by asks marks i none = ap (comes_by by marks i) (is_alone ds i none) ∙ asks.asks i

inner_comes : (ds : List Decl) (p by : Item → Bool) (marks : List ℕ) → AreMarks ds p marks → (i : Item) (items within : List Item) → inner_list ds i ≡ Some items → Expands ds items within → item_comes ds by marks i ≡ list_any p within
inner_comes ds p by marks known i items within some e =
    let f = named_of ds (inner_number ds i) items some in
    ap (comes_by by marks i) f.1 ∙ marked_is ds p marks known f.0 items within f.2 e

module _ (ds : List Decl) (pays fills : List ℕ) (payloads : AreMarks ds is_payload pays) (anythings : AreMarks ds is_anything fills) where
  abbrev early : Bool → List Item → Bool
  early paid items = early_from (item_comes ds is_payload pays) (item_comes ds (fills_by ds) fills) paid items

  abbrev item_pays : Item → Bool
  item_pays i = item_comes ds is_payload pays i

  abbrev item_fills : Item → Bool
  item_fills i = item_comes ds (fills_by ds) fills i

  -- a declared list has it by its own items
  abbrev HasEarly : Type 0
  HasEarly = (l : ℕ) × (items : List Item) × (items_at ds l ≡ Some items) × (early false items ≡ true)

  abbrev Finds : List Item → List Item → Type 0
  Finds items all = (paid : Bool) → early_behind paid all ≡ true → (early paid items ≡ true) ⊎ HasEarly

  find_first : (i : Item) (rest part all : List Item) → item_pays i ≡ list_any is_payload part → item_fills i ≡ list_any is_anything part → (early_behind false part ≡ true → HasEarly) → Finds rest all → Finds (i ∷ rest) (part ++ all)
  find_first i rest part all does fits inside behind paid e =
      ⊎_elim
      (λ (h : early_behind paid part ≡ true).
      ⊎_elim
      (λ (k : (paid && list_any is_anything part) ≡ true). inl (or_left (paid && item_fills i) (early (paid || item_pays i) rest) (ap (λ (b : Bool). paid && b) fits ∙ k)))
      (λ (k : early_behind false part ≡ true). inr (inside k))
      (or_cases (paid && list_any is_anything part) (early_behind false part) (sym (early_part paid part) ∙ h)))
      (λ (h : early_behind (paid || list_any is_payload part) all ≡ true).
      ⊎_elim
      (λ (k : early (paid || item_pays i) rest ≡ true). inl (or_right (paid && item_fills i) (early (paid || item_pays i) rest) k))
      (λ (k : HasEarly). inr k)
      (behind (paid || item_pays i) (ap (λ (b : Bool). early_behind (paid || b) all) does ∙ h)))
      (or_cases (early_behind paid part) (early_behind (paid || list_any is_payload part) all) (sym (early_append paid part all) ∙ e))

  inside_list : (i : Item) (items within : List Item) → inner_list ds i ≡ Some items → Finds items within → early_behind false within ≡ true → HasEarly
  inside_list i items within some finds e =
      let f = named_of ds (inner_number ds i) items some in
      ⊎_elim (λ (k : early false items ≡ true). (f.0, items, f.2, k)) (λ (k : HasEarly). k) (finds false e)

  finds : (items all : List Item) → Expands ds items all → Finds items all
  finds _ _ Nothing paid e = absurd (cc e)
  finds _ _ (Own i rest all none x) paid e =
      find_first i rest (own_items ds i) all (own_comes ds is_payload is_payload (payload_asks ds) pays i none) (own_comes ds is_anything (fills_by ds) (fills_asks ds) fills i none) (λ h. absurd (both_ways _ (own_late ds i) h)) (finds rest all x) paid e
  finds _ _ (Inner i rest items within all some x y) paid e =
      find_first i rest within all (inner_comes ds is_payload is_payload pays payloads i items within some x) (inner_comes ds is_anything (fills_by ds) fills anythings i items within some x) (inside_list i items within some (finds items within x)) (finds rest all y) paid e

  abbrev Gives : List Item → List Item → Type 0
  Gives items all = (paid : Bool) → early paid items ≡ true → early_behind paid all ≡ true

  give_first : (i : Item) (rest part all : List Item) → item_pays i ≡ list_any is_payload part → item_fills i ≡ list_any is_anything part → Gives rest all → Gives (i ∷ rest) (part ++ all)
  give_first i rest part all does fits behind paid e =
      early_append paid part all
      ∙ ⊎_elim
      (λ (h : (paid && item_fills i) ≡ true).
      or_left (early_behind paid part) (early_behind (paid || list_any is_payload part) all)
      (early_part paid part ∙ or_left (paid && list_any is_anything part) (early_behind false part) (sym (ap (λ (b : Bool). paid && b) fits) ∙ h)))
      (λ (h : early (paid || item_pays i) rest ≡ true).
      or_right (early_behind paid part) (early_behind (paid || list_any is_payload part) all)
      (sym (ap (λ (b : Bool). early_behind (paid || b) all) does) ∙ behind (paid || item_pays i) h))
      (or_cases (paid && item_fills i) (early (paid || item_pays i) rest) e)

  gives : (items all : List Item) → Expands ds items all → Gives items all
  gives _ _ Nothing paid e = absurd (cc e)
  gives _ _ (Own i rest all none x) paid e =
      give_first i rest (own_items ds i) all (own_comes ds is_payload is_payload (payload_asks ds) pays i none) (own_comes ds is_anything (fills_by ds) (fills_asks ds) fills i none) (gives rest all x) paid e
  gives _ _ (Inner i rest items within all some x y) paid e =
      give_first i rest within all (inner_comes ds is_payload is_payload pays payloads i items within some x) (inner_comes ds is_anything (fills_by ds) fills anythings i items within some x) (gives rest all y) paid e

  -- a declared list

  by_own : HasEarly → some_early ds pays fills ≡ true
  by_own (l, items, there, h) =
      let f = list_of (slice_get (lists ds) l) items there in
      there_any (is_early ds pays fills) (lists ds) l f.0 f.1 (ap (early false) f.2 ∙ h)

  pub list_early : some_early ds pays fills ≡ true → ListHasEarlyPayload ds
  list_early e =
      let h = any_there (is_early ds pays fills) (lists ds) e in
      let there : items_at ds h.0 ≡ Some h.1.items = ap (option_map items_in) h.2 in
      let c = payloads.comes h.0 h.1.items there in
      record { list = h.0; items = h.1.items; all = c.0; numbered = there; expands = c.1; early = early_is c.0 ∙ gives h.1.items c.0 c.1 false h.3 }

  early_by : (l : ℕ) (items all : List Item) → items_at ds l ≡ Some items → Expands ds items all → early_behind false all ≡ true → some_early ds pays fills ≡ true
  early_by l items all there x e =
      ⊎_elim (λ (k : early false items ≡ true). by_own (l, items, there, k)) (λ (k : HasEarly). by_own k) (finds items all x false e)

  pub early_list : ListHasEarlyPayload ds → some_early ds pays fills ≡ true
  early_list r = early_by r.list r.items r.all r.numbered r.expands (sym (early_is r.all) ∙ r.early)

  -- joined lists, where no declared list has it

  late : some_early ds pays fills ≡ false → (name : Name) (all : List Item) → ComesTo ds name all → early_behind false all ≡ false
  late none name all there =
      let f = named_of ds (list_number ds name) there.items there.named in
      false_from_ne_true (early_behind false all) (λ e. both_ways _ none (early_by f.0 there.items all f.2 there.expands e))

  abbrev names_early : Bool → List Name → Bool
  names_early paid names = early_from (is_marked_name ds pays) (is_marked_name ds fills) paid names

  joined_early : some_early ds pays fills ≡ false → (names : List Name) (all : List Item) → Joins ds names all → (paid : Bool) → early_behind paid all ≡ names_early paid names
  joined_early none [] all is paid = ap (early_behind paid) is
  joined_early none (name ∷ names) all (first, rest, there, behind, is) paid =
      let does : list_any is_payload first ≡ is_marked_name ds pays name = sym (named_is ds is_payload pays payloads name first there) in
      let fits : list_any is_anything first ≡ is_marked_name ds fills name = sym (named_is ds is_anything fills anythings name first there) in
      let one : early_behind paid first ≡ (paid && is_marked_name ds fills name) =
      early_part paid first
      ∙ (ap (λ (b : Bool). (paid && list_any is_anything first) || b) (late none name first there)
      ∙ (sym (or_nothing (paid && list_any is_anything first)) ∙ ap (λ (b : Bool). paid && b) fits)) in
      let more : early_behind (paid || list_any is_payload first) rest ≡ names_early (paid || is_marked_name ds pays name) names =
      ap (λ (b : Bool). early_behind (paid || b) rest) does ∙ joined_early none names rest behind (paid || is_marked_name ds pays name) in
      ap (early_behind paid) is ∙ (early_append paid first rest ∙ or_same _ _ _ _ one more)

  pub input_early : some_early ds pays fills ≡ false → list_any (is_early_input ds pays fills) (inputs ds) ≡ true → InputHasEarlyPayload ds
  input_early none e =
      let h = any_contains (is_early_input ds pays fills) (inputs ds) e in
      let k = and_parts (not (list_any (is_missing ds) h.0)) (names_early false h.0) h.2 in
      let j = join_all ds is_payload pays payloads h.0 (not-true (list_any (is_missing ds) h.0) k.0) in
      record { names = h.0; all = j.0; input = h.1; joined = j.1; early = early_is j.0 ∙ (joined_early none h.0 j.0 j.1 false ∙ k.1) }

  pub early_input : some_early ds pays fills ≡ false → InputHasEarlyPayload ds → list_any (is_early_input ds pays fills) (inputs ds) ≡ true
  early_input none r =
      contains_any (is_early_input ds pays fills) (inputs ds) r.names r.input
      (and_from (not (list_any (is_missing ds) r.names)) (names_early false r.names)
      (not_from_false (list_any (is_missing ds) r.names) (never_missing_all ds r.names r.all r.joined))
      (sym (joined_early none r.names r.all r.joined false) ∙ (sym (early_is r.all) ∙ r.early)))

  -- all that C20 asks

  abbrev Late : Bool
  Late = list_any (is_early_input ds pays fills) (inputs ds) || joins_marked ds pays (all_hashed ds)

  late_is : some_early ds pays fills ≡ false → Late ≡ true → HasBadPayload ds
  late_is none e =
      ⊎_elim (λ h. inr (inl (input_early none h))) (λ h. inr (inr (joins_is ds is_payload pays payloads (all_hashed ds) h))) (or_cases (list_any (is_early_input ds pays fills) (inputs ds)) (joins_marked ds pays (all_hashed ds)) e)

  is_late : some_early ds pays fills ≡ false → HasBadPayload ds → Late ≡ true
  is_late none (inl h) = absurd (both_ways _ none (early_list h))
  is_late none (inr (inl h)) = or_left (list_any (is_early_input ds pays fills) (inputs ds)) (joins_marked ds pays (all_hashed ds)) (early_input none h)
  is_late none (inr (inr h)) = or_right (list_any (is_early_input ds pays fills) (inputs ds)) (joins_marked ds pays (all_hashed ds)) (joins_back ds is_payload pays payloads (all_hashed ds) h)

  by_list : (b : Bool) → some_early ds pays fills ≡ b → IsExact (b || Late) (HasBadPayload ds)
  by_list true e = inl (list_early e)
  by_list false e = exact_by Late (HasBadPayload ds) (late_is e) (is_late e)

  pub payload_exact : IsExact (some_early ds pays fills || (list_any (is_early_input ds pays fills) (inputs ds) || joins_marked ds pays (all_hashed ds))) (HasBadPayload ds)
  payload_exact = by_list (some_early ds pays fills) refl

-- the same, of hashes by the calculations that calls name
pub payload_by : (ds : List Decl) (pays fills : List ℕ) → AreMarks ds is_payload pays → AreMarks ds is_anything fills → (names : List Name) → names ≡ distinct (named_by Calculation (all_invocations ds)) → (bad : Bool)
    → bad ≡ (some_early ds pays fills || (list_any (is_early_input ds pays fills) (inputs ds) || inputs_marked ds pays names)) → IsExact bad (HasBadPayload ds)
payload_by ds pays fills payloads anythings names e bad is =
    exact_same bad (some_early ds pays fills || (list_any (is_early_input ds pays fills) (inputs ds) || joins_marked ds pays (all_hashed ds))) (HasBadPayload ds)
    (is ∙ ap (λ (b : Bool). some_early ds pays fills || (list_any (is_early_input ds pays fills) (inputs ds) || b)) (ap (inputs_marked ds pays) e ∙ hashed_marked ds pays))
    (payload_exact ds pays fills payloads anythings)
