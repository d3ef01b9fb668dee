-- What is found in lists, and in names that stand once.
use Rattle.std.proofs.Common.{◌≡◌, ℕ, zero, suc, ⊎_elim, Bool, true, false, ◌||◌, if◌then◌else◌, List, [], ◌∷◌, ◌++◌, map, flat_map, slice_get, Some, refl, sym, ap, ◌∙◌, subst, arith}
use Rattle.std.specs.List.{list_any, Contains}
use Rattle.std.specs.Str.{bytes_eq}
use Rattle.std.proofs.lemmas.Slice.Eq.{bytes_eq-Decides}
use Rattle.std.proofs.lemmas.Bool.{or_cases, or_left, or_right}
use Rattle.std.proofs.lemmas.List.Folds.{list_any_at, list_any-append}
use Rattle.p414_syntax.specs.Names.{Name, has_name}
use Rattle.p414_syntax.specs.Distinct.{distinct, distinct_behind}

pub or_nothing : (b : Bool) → b ≡ (b || false)
or_nothing true = refl
or_nothing false = refl

-- two tests are one where each follows from the other
pub same_test : (a b : Bool) → (a ≡ true → b ≡ true) → (b ≡ true → a ≡ true) → a ≡ b
same_test true b f g = sym (f refl)
same_test false true f g = g refl
same_test false false f g = refl

-- what stands at a place of a list

pub there_any : {X : Type 0} (q : X → Bool) (xs : List X) (l : ℕ) (x : X) → slice_get xs l ≡ Some x → q x ≡ true → list_any q xs ≡ true
there_any q [] l x e h = absurd (cc e)
there_any q (y ∷ ys) zero x e h = or_left (q y) (list_any q ys) (ap q (cc e) ∙ h)
there_any q (y ∷ ys) (suc l) x e h = or_right (q y) (list_any q ys) (there_any q ys l x e h)

pub any_there : {X : Type 0} (q : X → Bool) (xs : List X) → list_any q xs ≡ true → (l : ℕ) × (x : X) × (slice_get xs l ≡ Some x) × (q x ≡ true)
any_there q [] e = absurd (cc e)
any_there q (y ∷ ys) e =
    ⊎_elim (λ h. (0, y, refl, h)) (λ h. let r = any_there q ys h in (suc r.0, r.1, r.2, r.3)) (or_cases (q y) (list_any q ys) e)

pub any_contains : {X : Type 0} (q : X → Bool) (xs : List X) → list_any q xs ≡ true → (x : X) × Contains xs x × (q x ≡ true)
any_contains q [] e = absurd (cc e)
any_contains q (y ∷ ys) e =
    ⊎_elim (λ h. (y, (0, omega arith, refl), h)) (λ h. let r = any_contains q ys h in (r.0, (suc r.1.0, omega (arith, r.1.1), r.1.2), r.2)) (or_cases (q y) (list_any q ys) e)

pub contains_any : {X : Type 0} (q : X → Bool) (xs : List X) (x : X) → Contains xs x → q x ≡ true → list_any q xs ≡ true
contains_any q xs x (k, within, is) h = list_any_at q xs k x within (ap q is ∙ h)

pub any_map : {X Y : Type 0} (q : Y → Bool) (f : X → Y) (xs : List X) → list_any q (map f xs) ≡ list_any (λ x. q (f x)) xs
any_map q f [] = refl
any_map q f (x ∷ xs) = ap (λ (b : Bool). q (f x) || b) (any_map q f xs)

pub any_flat : {X Y : Type 0} (q : Y → Bool) (f : X → List Y) (xs : List X) → list_any q (flat_map f xs) ≡ list_any (λ x. list_any q (f x)) xs
any_flat q f [] = refl
any_flat q f (x ∷ xs) = list_any-append q (f x) (flat_map f xs) ∙ ap (λ (b : Bool). list_any q (f x) || b) (any_flat q f xs)

-- names

pub turned : (a b : Name) → bytes_eq a b ≡ true → bytes_eq b a ≡ true
turned a b e = (bytes_eq-Decides b a).1 (sym ((bytes_eq-Decides a b).0 e))

one_way : (xs ys : List Name) → list_any (has_name ys) xs ≡ true → list_any (has_name xs) ys ≡ true
one_way xs ys e =
    let h = any_there (has_name ys) xs e in
    let k = any_there (bytes_eq h.1) ys h.3 in
    there_any (has_name xs) ys k.0 k.1 k.2 (there_any (bytes_eq k.1) xs h.0 h.1 h.2 (turned h.1 k.1 k.3))

-- one of these names is among those where one of those is among these
pub common_turned : (xs ys : List Name) → list_any (has_name ys) xs ≡ list_any (has_name xs) ys
common_turned xs ys = same_test (list_any (has_name ys) xs) (list_any (has_name xs) ys) (one_way xs ys) (one_way ys xs)

-- names that stand once

named_before : (q : Name → Bool) (before : List Name) (x : Name) → has_name before x ≡ true → q x ≡ true → list_any q before ≡ true
named_before q before x e h =
    let k = any_there (bytes_eq x) before e in
    there_any q before k.0 k.1 k.2 (ap q (sym ((bytes_eq-Decides x k.1).0 k.3)) ∙ h)

again_by : (b c d x : Bool) → (c ≡ true → b ≡ true) → (b || d) ≡ (b || x) → (b || d) ≡ (b || (c || x))
again_by true c d x h e = refl
again_by false true d x h e = absurd (cc (h refl))
again_by false false d x h e = e

new_by : (b c d x : Bool) → ((b || (c || false)) || d) ≡ ((b || (c || false)) || x) → (b || (c || d)) ≡ (b || (c || x))
new_by true c d x e = refl
new_by false true d x e = refl
new_by false false d x e = e

behind_any : (q : Name → Bool) (before names : List Name) → (list_any q before || list_any q (distinct_behind before names)) ≡ (list_any q before || list_any q names)
behind_any q before [] = refl
behind_any q before (x ∷ names) = by_test (has_name before x) refl (behind_any q before names) (behind_any q (before ++ x ∷ []) names) where
  by_test : (t : Bool) → has_name before x ≡ t
      → (list_any q before || list_any q (distinct_behind before names)) ≡ (list_any q before || list_any q names)
      → (list_any q (before ++ x ∷ []) || list_any q (distinct_behind (before ++ x ∷ []) names)) ≡ (list_any q (before ++ x ∷ []) || list_any q names)
      → (list_any q before || list_any q (if t then distinct_behind before names else x ∷ distinct_behind (before ++ x ∷ []) names)) ≡ (list_any q before || (q x || list_any q names))
  by_test true e same more = again_by (list_any q before) (q x) (list_any q (distinct_behind before names)) (list_any q names) (named_before q before x e) same
  by_test false e same more =
      new_by (list_any q before) (q x) (list_any q (distinct_behind (before ++ x ∷ []) names)) (list_any q names)
      (subst (λ (b : Bool). (b || list_any q (distinct_behind (before ++ x ∷ []) names)) ≡ (b || list_any q names)) (list_any-append q before (x ∷ [])) more)

pub distinct_any : (q : Name → Bool) (names : List Name) → list_any q (distinct names) ≡ list_any q names
distinct_any q names = behind_any q [] names
