-- The first place of a name.
use Rattle.std.proofs.Common.{◌≡◌, inl, inr, ℕ, ◌+◌, ◌<◌, ◌≤◌, Bool, true, false, not, cond, nat_eq, ltb, Option, Some, None, unwrap_or, List, [], ◌∷◌, ◌++◌, length, map, take, get_or, refl, sym, ap, ◌∙◌, subst, arith, eq-eqb, IfSome}
use Rattle.std.specs.List.{position_or_len}
use Rattle.std.specs.Ordering.{nat_cmp, is_eq}
use Rattle.std.specs.Cmp.Lexicographic.{slice_cmp, texts_ties}
use Rattle.std.specs.declared.cmp.Ordering.{Ordering}
use Rattle.std.specs.declared.cmp.Ordering.TheVariants.{Less, Equal, Greater}
use Rattle.std.specs.BTreeMap.{BTreeMap}
use Rattle.std.proofs.lemmas.Bool.{cases_lt, lt-ltb}
use Rattle.std.proofs.lemmas.Bool.Decides.{nat_tests}
use Rattle.std.proofs.lemmas.List.{length-append, take_more, map-append, length-map, length-take-le}
use Rattle.std.proofs.lemmas.List.Folds.{position_or_len_push}
use Rattle.std.proofs.lemmas.List.Sums.{prefix_len-le-length}
use Rattle.std.proofs.lemmas.List.Quantifiers.{position-Some}
use Rattle.std.proofs.lemmas.Map.Lookups.{exact_bytes}
use Rattle.entries_file.specs.internal.Drafts.{IsPut}
use Rattle.entries_file.specs.Rules.{has_name, place_of}
use Rattle.entries_file.specs.internal.Drafts.{name_found, IsNameIndex}

-- the first of two that is there
abbrev pub first_of : Option ℕ → Option ℕ → Option ℕ
first_of None other = other
first_of (Some n) other = Some n

push_found : (here count : ℕ) (b : Bool) → here < count
    → cond (ltb (cond (nat_eq here count) (count + cond b 0 1) here) (count + 1)) (Some (cond (nat_eq here count) (count + cond b 0 1) here)) None
    ≡ first_of (cond (ltb here count) (Some here) None) (cond b (Some count) None)
push_found here count b lt =
    let apart : nat_eq here count ≡ false = grind (arith, nat_tests) in
    let found : ltb here count ≡ true = lt-ltb here count lt in
    let still : ltb here (count + 1) ≡ true = lt-ltb here (count + 1) (omega arith) in
    rw (apart, found, still) refl

new_by : (count : ℕ) (b : Bool) → cond (ltb (count + cond b 0 1) (count + 1)) (Some (count + cond b 0 1)) None ≡ cond b (Some count) None
new_by count true =
    let here : count + 0 ≡ count = omega arith in
    let found : ltb count (count + 1) ≡ true = lt-ltb count (count + 1) (omega arith) in
    rw (here, found) refl
new_by count false =
    let none : ltb (count + 1) (count + 1) ≡ false = grind (arith, nat_tests) in
    rw none refl

push_new : (here count : ℕ) (b : Bool) → here ≡ count
    → cond (ltb (cond (nat_eq here count) (count + cond b 0 1) here) (count + 1)) (Some (cond (nat_eq here count) (count + cond b 0 1) here)) None
    ≡ first_of (cond (ltb here count) (Some here) None) (cond b (Some count) None)
push_new here count b same =
    let equal : nat_eq count count ≡ true = eq-eqb count count refl in
    let none : ltb count count ≡ false = grind (arith, nat_tests) in
    rw (same, equal, none) (new_by count b)

push_by : (here count : ℕ) (b : Bool) → here ≤ count
    → cond (ltb (cond (nat_eq here count) (count + cond b 0 1) here) (count + 1)) (Some (cond (nat_eq here count) (count + cond b 0 1) here)) None
    ≡ first_of (cond (ltb here count) (Some here) None) (cond b (Some count) None)
push_by here count b le =
    elim (cases_lt here count) [ inl lt ↦ push_found here count b lt | inr at ↦ push_new here count b (omega arith) ]

-- one more name
pub place-push : (names : List (Option (List ℕ))) (more : Option (List ℕ)) (name : List ℕ) → place_of (names ++ more ∷ []) name ≡ first_of (place_of names name) (cond (has_name name more) (Some (length names)) None)
place-push names more name =
    let pushed = position_or_len_push (has_name name) names more in
    let count : length (names ++ more ∷ []) ≡ length names + 1 = length-append names (more ∷ []) in
    rw (pushed, count) (push_by (position_or_len (has_name name) names) (length names) (has_name name more) (prefix_len-le-length (λ other. not (has_name name other)) names))

first_here : (o : Option ℕ) (n : ℕ) → Some (unwrap_or o n) ≡ first_of o (Some n)
first_here None n = refl
first_here (Some m) n = refl

first_only : (o : Option ℕ) → o ≡ first_of o None
first_only None = refl
first_only (Some m) = refl

equal_of : (o : Ordering) → is_eq o ≡ true → o ≡ Equal
equal_of Less is = cc
equal_of Equal is = refl
equal_of Greater is = cc

put_by : (b : Bool) (key name : List ℕ) (count : ℕ) (found : List ℕ → Option ℕ) → is_eq (slice_cmp nat_cmp key name) ≡ b
    → cond b (Some (unwrap_or (found key) count)) (found name) ≡ first_of (found name) (cond b (Some count) None)
put_by true key name count found is =
    let same : key ≡ name = exact_bytes key name (equal_of (slice_cmp nat_cmp key name) is) in
    rw same (first_here (found name) count)
put_by false key name count found is = first_only (found name)

-- a name's number is put into the index where none stands
pub index_put : {K : Type 0} (now : K → List ℕ) (at : List ℕ → K) (same : (name : List ℕ) → now (at name) ≡ name) (before after : BTreeMap K ℕ) (names : List (Option (List ℕ))) (key : K) (i : ℕ) → i ≡ length names
    → IsNameIndex now before names → IsPut (λ x y. slice_cmp nat_cmp (now x) (now y)) before after key i → IsNameIndex now after (names ++ Some (now key) ∷ [])
index_put now at same before after names key i count index puts name =
    let put : name_found now after name ≡ cond (is_eq (slice_cmp nat_cmp (now key) name)) (Some (unwrap_or (name_found now before (now key)) i)) (name_found now before name) = rw same at (puts (at name)) in
    let is_i : i ≡ length names = count in
    put
    ∙ (rw (index (now key), index name, count)
    (put_by (is_eq (slice_cmp nat_cmp (now key) name)) (now key) name (length names) (place_of names) refl
    ∙ (ap (λ (b : Bool). first_of (place_of names name) (cond b (Some (length names)) None)) (sym (texts_ties (now key) name)) ∙ sym (place-push names (Some (now key)) name))))

-- what has no name changes nothing
pub index_pass : {K : Type 0} (now : K → List ℕ) (map : BTreeMap K ℕ) (names : List (Option (List ℕ))) → IsNameIndex now map names → IsNameIndex now map (names ++ None ∷ [])
index_pass now map names index name = index name ∙ (first_only (place_of names name) ∙ sym (place-push names None name))

-- the names up to one more
pub names_more : {T : Type 0} (listed : T → Option (List ℕ)) (items : List T) (i : ℕ) (d : T) → i < length items → map listed (take (i + 1) items) ≡ map listed (take i items) ++ listed (get_or items i d) ∷ []
names_more listed items i d lt = ap (map listed) (take_more items i d lt) ∙ map-append listed (take i items) (get_or items i d ∷ [])

pub names_count : {T : Type 0} (listed : T → Option (List ℕ)) (items : List T) (i : ℕ) → i ≤ length items → i ≡ length (map listed (take i items))
names_count listed items i le = sym (length-map (take i items) listed ∙ length-take-le i items le)

found_within : (names : List (Option (List ℕ))) (name : List ℕ) (o : Option ℕ) → o ≡ place_of names name → IfSome o (λ n. n < length names)
found_within names name None is = tt
found_within names name (Some n) is = (position-Some (has_name name) names n None (sym is)).0

-- what is found is there
pub place_within : {T : Type 0} (listed : T → Option (List ℕ)) (items : List T) (name : List ℕ) (o : Option ℕ) → o ≡ place_of (map listed items) name → IfSome o (λ n. n < length items)
place_within listed items name o is = subst (λ count. IfSome o (λ n. n < count)) (length-map items listed) (found_within (map listed items) name o is)
