-- Where names stand last, as names are put and taken off.
use Rattle.std.proofs.Common.{◌≡◌, ℕ, zero, suc, ◌+◌, ◌-◌, Bool, true, false, cond, nat_eq, Option, Some, None, List, [], ◌∷◌, ◌++◌, length, map, take, get_or, slice_get, ◌<◌, subst, refl, sym, ap, ◌∙◌, arith}
use Rattle.std.specs.Prelude.{option_to_list}
use Rattle.std.specs.Str.{bytes_eq}
use Rattle.std.specs.Ordering.{nat_cmp, is_eq}
use Rattle.std.specs.Cmp.Lexicographic.{slice_cmp, texts_ties}
use Rattle.std.specs.declared.cmp.Ordering.{Ordering}
use Rattle.std.specs.declared.cmp.Ordering.TheVariants.{Less, Equal, Greater}
use Rattle.std.specs.BTreeMap.{BTreeMap}
use Rattle.std.proofs.lemmas.List.{append-nil, append_assoc, length-map, map-append}
use Rattle.std.proofs.lemmas.Option.{slice_get_within, slice_get-get_or}
use Rattle.std.proofs.lemmas.Map.Lookups.{exact_bytes}
use Rattle.name_stack.specs.Newest.{Name, newest, behind_first}
use Rattle.name_stack.specs.internal.Links.{entry_name, IsSet, joined, place_at, AreLinked, IsStack}
use Rattle.name_stack.specs.declared.stack.Entry.{Entry}

-- one more name

more_by : (n : ℕ) (b c : Bool) (o : Option ℕ) → behind_first (cond b (Some n) o) c ≡ cond b (Some (suc n)) (behind_first o c)
more_by n true c o = refl
more_by n false c o = refl

pub newest_push : (names : List Name) (more text : Name) → newest (names ++ more ∷ []) text ≡ cond (bytes_eq more text) (Some (length names)) (newest names text)
newest_push [] more text = refl
newest_push (name ∷ names) more text =
    ap (λ o. behind_first o (bytes_eq name text)) (newest_push names more text)
    ∙ more_by (length names) (bytes_eq more text) (bytes_eq name text) (newest names text)

-- links of one more entry

pub linked_push : (before : List Name) (es : List Entry) (e : Entry) → AreLinked before es → e.hidden ≡ newest (before ++ map entry_name es) (entry_name e) → AreLinked before (es ++ e ∷ [])
linked_push before [] e linked is = (subst (λ names. e.hidden ≡ newest names (entry_name e)) (append-nil before) is, _)
linked_push before (x ∷ es) e linked is =
    (linked.0, linked_push (before ++ entry_name x ∷ []) es e linked.1 (subst (λ names. e.hidden ≡ newest names (entry_name e)) (sym (append_assoc before (entry_name x ∷ []) (map entry_name es))) is))

pub linked_front : (before : List Name) (es : List Entry) (e : Entry) → AreLinked before (es ++ e ∷ []) → AreLinked before es
linked_front before [] e linked = _
linked_front before (x ∷ es) e linked = (linked.0, linked_front (before ++ entry_name x ∷ []) es e linked.1)

pub linked_last : (before : List Name) (es : List Entry) (e : Entry) → AreLinked before (es ++ e ∷ []) → e.hidden ≡ newest (before ++ map entry_name es) (entry_name e)
linked_last before [] e linked = subst (λ names. e.hidden ≡ newest names (entry_name e)) (sym (append-nil before)) linked.0
linked_last before (x ∷ es) e linked =
    subst (λ names. e.hidden ≡ newest names (entry_name e)) (append_assoc before (entry_name x ∷ []) (map entry_name es))
    (linked_last (before ++ entry_name x ∷ []) es e linked.1)

-- a value that is set in the map

joined_by : (b : Bool) (value : Option ℕ) (o : Option (Option ℕ)) → joined (cond b (Some value) o) ≡ cond b value (joined o)
joined_by true value o = refl
joined_by false value o = refl

equal_of : (o : Ordering) → is_eq o ≡ true → o ≡ Equal
equal_of Less is = cc
equal_of Equal is = refl
equal_of Greater is = cc

same_name : (a b : Name) → bytes_eq a b ≡ true → a ≡ b
same_name a b is = exact_bytes a b (equal_of (slice_cmp nat_cmp a b) (sym (texts_ties a b) ∙ is))

pub place_set : {K : Type 0} (now : K → Name) (at : Name → K) (same : (name : Name) → now (at name) ≡ name) (before after : BTreeMap K (Option ℕ)) (key : K) (value : Option ℕ)
    → IsSet (λ x y. slice_cmp nat_cmp (now x) (now y)) before after key value → (name : Name) → place_at now after name ≡ cond (bytes_eq (now key) name) value (place_at now before name)
place_set now at same before after key value sets name =
    let set = rw same at (sets (at name)) in
    ap joined set
    ∙ (joined_by (is_eq (slice_cmp nat_cmp (now key) name)) value _
    ∙ ap (λ b. cond b value (place_at now before name)) (sym (texts_ties (now key) name)))

-- what is known of the stack with one name more, and with one less

pub stack_push : {K : Type 0} (now : K → Name) (at : Name → K) (same : (name : Name) → now (at name) ≡ name) (es : List Entry) (before after : BTreeMap K (Option ℕ)) (e : Entry) (key : K) (place : ℕ)
    → now key ≡ entry_name e → place ≡ length es → e.hidden ≡ newest (map entry_name es) (entry_name e)
    → IsStack now es before → IsSet (λ x y. slice_cmp nat_cmp (now x) (now y)) before after key (Some place) → IsStack now (es ++ e ∷ []) after
stack_push now at same es before after e key place key_is place_is hidden_is is sets = record {
  linked = linked_push [] es e is.linked hidden_is;
  newest_are = λ name.
      place_set now at same before after key (Some place) sets name
      ∙ (rw (key_is, place_is ∙ sym (length-map es entry_name), is.newest_are name) (sym (newest_push (map entry_name es) (entry_name e) name))
      ∙ ap (λ names. newest names name) (sym (map-append entry_name es (e ∷ []))));
}

popped_by : (b : Bool) (names : List Name) (last name : Name) (hidden : Option ℕ) (n : ℕ) → hidden ≡ newest names last → b ≡ bytes_eq last name → cond b hidden (cond b (Some n) (newest names name)) ≡ newest names name
popped_by true names last name hidden n is at = is ∙ ap (newest names) (same_name last name (sym at))
popped_by false names last name hidden n is at = refl

pub stack_pop : {K : Type 0} (now : K → Name) (at : Name → K) (same : (name : Name) → now (at name) ≡ name) (es : List Entry) (before after : BTreeMap K (Option ℕ)) (e : Entry) (key : K)
    → now key ≡ entry_name e → IsStack now (es ++ e ∷ []) before → IsSet (λ x y. slice_cmp nat_cmp (now x) (now y)) before after key e.hidden → IsStack now es after
stack_pop now at same es before after e key key_is is sets = record {
  linked = linked_front [] es e is.linked;
  newest_are = λ name.
      let had : place_at now before name ≡ cond (bytes_eq (entry_name e) name) (Some (length (map entry_name es))) (newest (map entry_name es) name) =
      is.newest_are name ∙ (ap (λ names. newest names name) (map-append entry_name es (e ∷ [])) ∙ newest_push (map entry_name es) (entry_name e) name) in
      place_set now at same before after key e.hidden sets name
      ∙ rw (key_is, had) (popped_by (bytes_eq (entry_name e) name) (map entry_name es) (entry_name e) name e.hidden (length (map entry_name es)) (linked_last [] es e is.linked) refl);
}

-- a map with the same entries knows the same
pub stack_kept : {K : Type 0} (now : K → Name) (es : List Entry) (before after : BTreeMap K (Option ℕ)) → after.entries ≡ before.entries → IsStack now es before → IsStack now es after
stack_kept now es before after kept is = record { linked = is.linked; newest_are = λ name. rw kept (is.newest_are name) }

-- the last entry is the one that is taken off
pub last_popped : (items rest : List Entry) (o : Option Entry) (e : Entry) → items ≡ rest ++ option_to_list o → ((d : Entry) → 0 < length items → o ≡ Some (get_or items (length items - 1) d))
    → slice_get items (length items - 1) ≡ Some e → items ≡ rest ++ e ∷ []
last_popped items rest o e is value last =
    let within : length items - 1 < length items = slice_get_within items (length items - 1) e last in
    let there : o ≡ Some e = value e (omega arith) ∙ (sym (slice_get-get_or items (length items - 1) e within) ∙ last) in
    is ∙ ap (λ p. rest ++ option_to_list p) there
