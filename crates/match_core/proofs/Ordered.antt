-- The order of a table's entries, and the first of them that matches.
use Rattle.std.proofs.Common.{◌≡◌, ℕ, zero, suc, nat_eq, nat_lt, ◌%◌, ◌^◌, ◌<◌, ◌≤◌, Bool, true, false, List, [], ◌∷◌, ◌++◌, length, get_or, All, Some, None, refl, sym, ◌∙◌, ap, subst, arith}
use Rattle.std.proofs.lemmas.Bool.Decides.{nat_tests}
use Rattle.std.proofs.lemmas.List.{get_or_default}
use Rattle.std.specs.List.{Contains}
use Rattle.std.specs.List.Sorted.{IsPermutation, IsNonDecreasing}
use Rattle.std.proofs.lemmas.List.Elements.{All-push, Contains-append_left, Contains-append_right, Contains-get_or}
use Rattle.std.proofs.lemmas.List.Sorted.{All-permutation, Contains-permutation}
use Rattle.match_core.specs.declared.entries.Entry.{Entry}
use Rattle.match_core.specs.Matching.{matches}
use Rattle.match_core.specs.Best.{Filled, IsBest, hits}
use Rattle.match_core.specs.internal.Order.{place_of, IsPlace, IsOrder}

-- the places of the first entries
abbrev pub places : Filled → ℕ → List ℕ
places table zero = []
places table (suc i) = places table i ++ (place_of table i ∷ [])

places_each : (table : Filled) (i : ℕ) → i ≤ length table.entries → All (IsPlace table) (places table i)
places_each table zero fits = λ k d inside. absurd (omega arith)
places_each table (suc i) fits = All-push (IsPlace table) (places table i) (place_of table i) (places_each table i (omega arith)) (record { number = i; within = omega arith; is = refl })

places_has : (table : Filled) (i n : ℕ) → n < i → Contains (places table i) (place_of table n)
places_has table zero n below = absurd (omega arith)
places_has table (suc i) n below = by_last (nat_eq n i) refl (λ lower. places_has table i n lower)
  where
    by_last : (b : Bool) → nat_eq n i ≡ b → (n < i → Contains (places table i) (place_of table n)) → Contains (places table (suc i)) (place_of table n)
    by_last true is earlier =
        let same : n ≡ i = grind (arith, nat_tests) in
        subst (λ (k : ℕ). Contains (places table (suc i)) (place_of table k)) (sym same)
        (Contains-append_right (places table i) (place_of table i ∷ []) (place_of table i) (Contains-get_or (place_of table i ∷ []) 0 0 (omega arith)))
    by_last false is earlier =
        let lower : n < i = grind (arith, nat_tests) in
        Contains-append_left (places table i) (place_of table i ∷ []) (place_of table n) (earlier lower)

pub order_is : (table : Filled) (i : ℕ) (before order : List ℕ) → i ≡ length table.entries → before ≡ places table i → IsPermutation before order → IsNonDecreasing order → IsOrder table order
order_is table i before order all before_is moved rises = record {
  each = All-permutation (IsPlace table) before order moved (subst (All (IsPlace table)) (sym before_is) (places_each table i (omega arith)));
  has = λ n within.
      Contains-permutation before order (place_of table n) moved (subst (λ (l : List ℕ). Contains l (place_of table n)) (sym before_is) (places_has table i n (omega arith)));
  rises = rises;
}

-- no entry before a place of the order matches
abbrev pub NoneBefore : Filled → List ℕ → List ℕ → ℕ → Type 0
NoneBefore table key order i = (j : ℕ) → j < i → hits table key (get_or order j 0 % 2 ^ 32) ≡ false

number_of_place : (table : Filled) (n : ℕ) → n < 2 ^ 32 → place_of table n % 2 ^ 32 ≡ n
number_of_place table n small = omega arith

-- an entry is found in the order, by its place
record Found (table : Filled) (order : List ℕ) (n : ℕ) : Type 0 where
  at : ℕ
  within : at < length order
  is : get_or order at 0 ≡ place_of table n

found : (table : Filled) (order : List ℕ) (n : ℕ) → IsOrder table order → n < length table.entries → Found table order n
found table order n is inside =
    let has = is.has n inside in
    record { at = has.0; within = has.1; is = get_or_default order has.0 0 (place_of table n) has.1 ∙ has.2 }

-- an entry that matches doesn't stand before the first one that does
not_before : (table : Filled) (key order : List ℕ) (i n : ℕ) → length table.entries < 2 ^ 32 → NoneBefore table key order i → n < length table.entries → hits table key n ≡ true → (f : Found table order n) → i ≤ f.at
not_before table key order i n few none inside passes f = by_place (nat_lt f.at i) refl
  where
    by_place : (b : Bool) → nat_lt f.at i ≡ b → i ≤ f.at
    by_place true is =
        let before : f.at < i = grind (arith, nat_tests) in
        let same : get_or order f.at 0 % 2 ^ 32 ≡ n = ap (λ (x : ℕ). x % 2 ^ 32) f.is ∙ number_of_place table n (omega arith) in
        let fails : hits table key n ≡ false = subst (λ (x : ℕ). hits table key x ≡ false) same (none f.at before) in
        absurd (cc (passes, fails))
    by_place false is = grind (arith, nat_tests)

-- what stands in the order is the number of an entry
pub number_within : (table : Filled) (order : List ℕ) (i n : ℕ) → length table.entries < 2 ^ 32 → IsOrder table order → i < length order → n ≡ get_or order i 0 % 2 ^ 32 → n < length table.entries
number_within table order i n few is inside number =
    let place : IsPlace table (get_or order i 0) = is.each i 0 inside in
    let within = place.within in
    let own : n ≡ place.number = number ∙ ap (λ (x : ℕ). x % 2 ^ 32) place.is ∙ number_of_place table place.number (omega arith) in
    omega (arith, own)

pub hits_at : (table : Filled) (key : List ℕ) (n : ℕ) (e : Entry) → n < length table.entries → matches table.specs (get_or table.entries n e).keys key ≡ true → hits table key n ≡ true
hits_at table key n e within passes =
    ap (λ (x : Entry). matches table.specs x.keys key) (get_or_default table.entries n (record { keys = []; priority = 0; action = 0; arguments = [] }) e within) ∙ passes

pub first_is : (table : Filled) (key order : List ℕ) (i n : ℕ) → length table.entries < 2 ^ 32 → IsOrder table order → NoneBefore table key order i → i < length order → n ≡ get_or order i 0 % 2 ^ 32
    → hits table key n ≡ true → IsBest table key (Some n)
first_is table key order i n few is none inside number passes = record {
  within = below;
  passes = passes;
  least = λ k within matches. let lower = goes_first k within matches in let small = below in omega arith;
  first = λ k within matches same. let lower = goes_first k within matches in let small = below in omega arith;
}
  where
    place : IsPlace table (get_or order i 0)
    place = is.each i 0 inside

    own : n ≡ place.number
    own = let within = place.within in number ∙ ap (λ (x : ℕ). x % 2 ^ 32) place.is ∙ number_of_place table place.number (omega arith)

    below : n < length table.entries
    below = let within = place.within in omega (arith, own)

    here : get_or order i 0 ≡ place_of table n
    here = place.is ∙ ap (place_of table) (sym own)

    goes_first : (k : ℕ) → k < length table.entries → hits table key k ≡ true → place_of table n ≤ place_of table k
    goes_first k within matches =
        let f = found table order k is within in
        let behind : i ≤ f.at = not_before table key order i k few none within matches f in
        let rises = is.rises i f.at 0 behind f.within in
        omega (arith, here, f.is)

pub none_is : (table : Filled) (key order : List ℕ) (i : ℕ) → length table.entries < 2 ^ 32 → IsOrder table order → NoneBefore table key order i → length order ≤ i → IsBest table key None
none_is table key order i few is none past n within =
    let f = found table order n is within in
    let inside = f.within in
    let same : get_or order f.at 0 % 2 ^ 32 ≡ n = ap (λ (x : ℕ). x % 2 ^ 32) f.is ∙ number_of_place table n (omega arith) in
    subst (λ (x : ℕ). hits table key x ≡ false) same (none f.at (omega arith))
