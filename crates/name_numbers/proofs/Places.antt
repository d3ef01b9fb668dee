-- The first place of a name.
use Rattle.std.proofs.Common.{◌≡◌, inl, inr, ℕ, ◌+◌, ◌<◌, ◌≤◌, Bool, true, false, not, cond, nat_eq, ltb, Option, Some, None, unwrap_or, List, [], ◌∷◌, ◌++◌, length, map, take, get_or, subst, refl, sym, ap, ◌∙◌, arith, eq-eqb}
use Rattle.std.specs.List.{position_or_len}
use Rattle.std.specs.Str.{bytes_eq}
use Rattle.std.specs.Ordering.{nat_cmp, is_eq}
use Rattle.std.specs.Cmp.Lexicographic.{slice_cmp, texts_ties}
use Rattle.std.specs.declared.cmp.Ordering.{Ordering}
use Rattle.std.specs.declared.cmp.Ordering.TheVariants.{Less, Equal, Greater}
use Rattle.std.specs.BTreeMap.{BTreeMap}
use Rattle.std.proofs.lemmas.Bool.{cases_lt, cases_eq, ne_eqb, lt-ltb}
use Rattle.std.proofs.lemmas.Bool.Decides.{nat_tests}
use Rattle.std.proofs.lemmas.List.{length-append, take_more, map-append, length-map, length-take-le}
use Rattle.std.proofs.lemmas.List.Folds.{position_or_len_push}
use Rattle.std.proofs.lemmas.List.Sums.{prefix_len-le-length}
use Rattle.std.proofs.lemmas.Map.Lookups.{exact_bytes}
use Rattle.name_numbers.specs.Names.{Name, find_name}
use Rattle.name_numbers.specs.internal.Maps.{IsPut, found_at, IsIndex}

-- the first of two that is there
abbrev pub first_of : Option ℕ → Option ℕ → Option ℕ
first_of None other = other
first_of (Some n) other = Some n

push_found : (here count : ℕ) (b : Bool) → here < count
    → cond (ltb (cond (nat_eq here count) (count + cond b 0 1) here) (count + 1)) (Some (cond (nat_eq here count) (count + cond b 0 1) here)) None
    ≡ first_of (cond (ltb here count) (Some here) None) (cond b (Some count) None)
push_found here count b lt =
    let apart : nat_eq here count ≡ false = grind (arith, nat_tests) in
    let found : ltb here count ≡ true = lt-ltb here count lt in
    let still : ltb here (count + 1) ≡ true = lt-ltb here (count + 1) (omega arith) in
    rw (apart, found, still) refl

new_by : (count : ℕ) (b : Bool) → cond (ltb (count + cond b 0 1) (count + 1)) (Some (count + cond b 0 1)) None ≡ cond b (Some count) None
new_by count true =
    let here : count + 0 ≡ count = omega arith in
    let found : ltb count (count + 1) ≡ true = lt-ltb count (count + 1) (omega arith) in
    rw (here, found) refl
new_by count false =
    let none : ltb (count + 1) (count + 1) ≡ false = grind (arith, nat_tests) in
    rw none refl

push_new : (here count : ℕ) (b : Bool) → here ≡ count
    → cond (ltb (cond (nat_eq here count) (count + cond b 0 1) here) (count + 1)) (Some (cond (nat_eq here count) (count + cond b 0 1) here)) None
    ≡ first_of (cond (ltb here count) (Some here) None) (cond b (Some count) None)
push_new here count b same =
    let equal : nat_eq count count ≡ true = eq-eqb count count refl in
    let none : ltb count count ≡ false = grind (arith, nat_tests) in
    rw (same, equal, none) (new_by count b)

push_by : (here count : ℕ) (b : Bool) → here ≤ count
    → cond (ltb (cond (nat_eq here count) (count + cond b 0 1) here) (count + 1)) (Some (cond (nat_eq here count) (count + cond b 0 1) here)) None
    ≡ first_of (cond (ltb here count) (Some here) None) (cond b (Some count) None)
push_by here count b le =
    elim (cases_lt here count) [ inl lt ↦ push_found here count b lt | inr at ↦ push_new here count b (omega arith) ]

-- one more name
pub find-push : (names : List Name) (more name : Name) → find_name (names ++ more ∷ []) name ≡ first_of (find_name names name) (cond (bytes_eq name more) (Some (length names)) None)
find-push names more name =
    let pushed = position_or_len_push (bytes_eq name) names more in
    let count : length (names ++ more ∷ []) ≡ length names + 1 = length-append names (more ∷ []) in
    rw (pushed, count) (push_by (position_or_len (bytes_eq name) names) (length names) (bytes_eq name more) (prefix_len-le-length (λ other. not (bytes_eq name other)) names))

first_here : (o : Option ℕ) (n : ℕ) → Some (unwrap_or o n) ≡ first_of o (Some n)
first_here None n = refl
first_here (Some m) n = refl

first_only : (o : Option ℕ) → o ≡ first_of o None
first_only None = refl
first_only (Some m) = refl

equal_of : (o : Ordering) → is_eq o ≡ true → o ≡ Equal
equal_of Less is = cc
equal_of Equal is = refl
equal_of Greater is = cc

put_by : (b : Bool) (key name : Name) (count : ℕ) (found : Name → Option ℕ) → is_eq (slice_cmp nat_cmp key name) ≡ b
    → cond b (Some (unwrap_or (found key) count)) (found name) ≡ first_of (found name) (cond b (Some count) None)
put_by true key name count found is =
    let same : key ≡ name = exact_bytes key name (equal_of (slice_cmp nat_cmp key name) is) in
    rw same (first_here (found name) count)
put_by false key name count found is = first_only (found name)

-- equal either way round
nat_either : (x y : ℕ) → nat_eq x y ≡ nat_eq y x
nat_either x y =
    elim (cases_eq x y) [
      | inl same ↦ rw same refl
      | inr apart ↦ rw (ne_eqb x y apart, ne_eqb y x (λ same. apart (sym same))) refl
    ]

bytes_either : (xs ys : List ℕ) → bytes_eq xs ys ≡ bytes_eq ys xs
bytes_either [] [] = refl
bytes_either [] (y ∷ ys) = refl
bytes_either (x ∷ xs) [] = refl
bytes_either (x ∷ xs) (y ∷ ys) = rw (nat_either x y, bytes_either xs ys) refl

same_either : (key name : Name) → is_eq (slice_cmp nat_cmp key name) ≡ bytes_eq name key
same_either key name = sym (texts_ties key name) ∙ bytes_either key name

-- a name's number is put into the index where none stands
pub index_put : {K : Type 0} (now : K → Name) (at : Name → K) (same : (name : Name) → now (at name) ≡ name) (before after : BTreeMap K ℕ) (names : List Name) (key : K) (number : ℕ) → number ≡ length names
    → IsIndex now before names → IsPut (λ x y. slice_cmp nat_cmp (now x) (now y)) before after key number → IsIndex now after (names ++ now key ∷ [])
index_put now at same before after names key number count index puts name =
    let put : found_at now after name ≡ cond (is_eq (slice_cmp nat_cmp (now key) name)) (Some (unwrap_or (found_at now before (now key)) number)) (found_at now before name) = rw same at (puts (at name)) in
    put
    ∙ (rw (index (now key), index name, count)
    (put_by (is_eq (slice_cmp nat_cmp (now key) name)) (now key) name (length names) (find_name names) refl
    ∙ (ap (λ (b : Bool). first_of (find_name names name) (cond b (Some (length names)) None)) (same_either (now key) name) ∙ sym (find-push names (now key) name))))

-- the names up to one more
pub names_more : {K : Type 0} (now : K → Name) (keys : List K) (i : ℕ) (d : K) → i < length keys → map now (take (i + 1) keys) ≡ map now (take i keys) ++ now (get_or keys i d) ∷ []
names_more {K} now keys i d lt = ap (map now) (take_more keys i d lt) ∙ map-append now (take i keys) (get_or keys i d ∷ [])

pub names_count : {K : Type 0} (now : K → Name) (keys : List K) (i : ℕ) → i ≤ length keys → i ≡ length (map now (take i keys))
names_count {K} now keys i le = sym (length-map (take i keys) now ∙ length-take-le i keys le)

-- the number of the next name is put
pub index_more : {K : Type 0} (now : K → Name) (at : Name → K) (same : (name : Name) → now (at name) ≡ name) (before after : BTreeMap K ℕ) (keys : List K) (i : ℕ) (key : K) (number : ℕ) → i < length keys → key ≡ get_or keys i key → number ≡ i
    → IsIndex now before (map now (take i keys)) → IsPut (λ x y. slice_cmp nat_cmp (now x) (now y)) before after key number → IsIndex now after (map now (take (i + 1) keys))
index_more {K} now at same before after keys i key number lt key_is number_is index puts =
    subst (λ (names : List Name). IsIndex now after names) (sym (names_more now keys i key lt ∙ ap (λ (k : K). map now (take i keys) ++ now k ∷ []) (sym key_is)))
    (index_put now at same before after (map now (take i keys)) key number (number_is ∙ names_count now keys i (omega arith)) index puts)
