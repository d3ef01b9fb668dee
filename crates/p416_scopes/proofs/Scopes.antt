-- What a name means among those that are declared one behind another.
use Rattle.std.proofs.Common.{◌≡◌, ℕ, zero, suc, ◌-◌, ◌<◌, ◌≤◌, min, take, drop, subst, Bool, true, false, cond, Option, Some, None, List, [], ◌∷◌, ◌++◌, length, refl, sym, ap, ◌∙◌, arith}
use Rattle.std.proofs.lemmas.List.{take-append-le, take-append-drop, length-take, length-take-le}
use Rattle.std.specs.Str.{bytes_eq}
use Rattle.name_stack.specs.Newest.{newest, behind_first}
use Rattle.p416_syntax.specs.Names.{Name}
use Rattle.p416_syntax.specs.Scopes as rule
use Rattle.p416_syntax.specs.Scopes.{Known, known, sort_in}
use Rattle.p416_names.specs.declared.sort.Sort.{Sort}
use Rattle.p416_names.specs.Seen.{seen_sort}
use Rattle.p416_scopes.specs.Seen.{own_names, sort_at}

-- the sort at the place that was found, or another
abbrev pub picked : List Known → List Sort → rule.Sort → Option ℕ → rule.Sort
picked top sorts other None = other
picked top sorts other (Some place) = sort_at top sorts place

picked_more : (top : List Known) (x : Sort) (sorts : List Sort) (outer : rule.Sort) (b : Bool) (found : Option ℕ)
    → picked top sorts (cond b (seen_sort top x) outer) found ≡ picked top (x ∷ sorts) outer (behind_first found b)
picked_more top x sorts outer true None = refl
picked_more top x sorts outer false None = refl
picked_more top x sorts outer b (Some n) = refl

less_by_one : {X Y : Type 0} (x : X) (y : Y) (xs : List X) (ys : List Y) → length (x ∷ xs) ≡ length (y ∷ ys) → length xs ≡ length ys
less_by_one x y xs ys e = omega (arith, e)

pub sort_found : (top : List Known) (names : List Name) (sorts : List Sort) (outer : List Known) (text : Name) → length names ≡ length sorts
    → sort_in (own_names top names sorts outer) text ≡ picked top sorts (sort_in outer text) (newest names text)
sort_found top [] sorts outer text same = refl
sort_found top (name ∷ names) [] outer text same = absurd (cc same)
sort_found top (name ∷ names) (x ∷ sorts) outer text same =
    sort_found top names sorts (known (seen_sort top x) name ∷ outer) text (less_by_one name x names sorts same)
    ∙ picked_more top x sorts (sort_in outer text) (bytes_eq name text) (newest names text)

-- one more name
pub own_push : (top : List Known) (names : List Name) (sorts : List Sort) (outer : List Known) (name : Name) (x : Sort) → length names ≡ length sorts
    → own_names top (names ++ name ∷ []) (sorts ++ x ∷ []) outer ≡ known (seen_sort top x) name ∷ own_names top names sorts outer
own_push top [] [] outer name x same = refl
own_push top [] (y ∷ sorts) outer name x same = absurd (cc same)
own_push top (n ∷ names) [] outer name x same = absurd (cc same)
own_push top (n ∷ names) (y ∷ sorts) outer name x same = own_push top names sorts (known (seen_sort top y) n ∷ outer) name x (less_by_one n y names sorts same)

-- names that are taken off

pub kept_less : {X : Type 0} (k : ℕ) (xs : List X) → k < length xs → take k (take (length xs - 1) xs) ≡ take k xs
kept_less k xs less =
    sym (take-append-le k (take (length xs - 1) xs) (drop (length xs - 1) xs) (subst (λ m. k ≤ m) (sym (length-take-le (length xs - 1) xs (omega arith))) (omega arith)))
    ∙ ap (take k) (take-append-drop (length xs - 1) xs)

pub one_less : {X : Type 0} (k : ℕ) (xs : List X) → k < length xs → length (take (length xs - 1) xs) < length xs
one_less k xs less = subst (λ m. m < length xs) (sym (length-take-le (length xs - 1) xs (omega arith))) (omega arith)

pub kept_all : {X : Type 0} (k : ℕ) (xs : List X) → length xs ≤ k → take k xs ≡ xs
kept_all zero [] within = refl
kept_all (suc k) [] within = refl
kept_all zero (x ∷ xs) within = let never : ⊥ = omega arith in absurd never
kept_all (suc k) (x ∷ xs) within = ap (λ ys. x ∷ ys) (kept_all k xs (omega arith))

-- the names that were there stay in front of those that were declared since
pub kept_front : {X : Type 0} (old xs : List X) (x : X) → take (length old) xs ≡ old → take (length old) (xs ++ x ∷ []) ≡ old
kept_front old xs x kept = take-append-le (length old) xs (x ∷ []) (front_within (length old) xs (ap length kept)) ∙ kept
  where
    front_within : {X : Type 0} (k : ℕ) (xs : List X) → length (take k xs) ≡ k → k ≤ length xs
    front_within k xs is = let short : length (take k xs) ≡ min k (length xs) = length-take k xs in omega (arith, is, short)
