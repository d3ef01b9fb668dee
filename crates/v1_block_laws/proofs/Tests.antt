-- What no test finds in a list it finds in no part of it.
use Rattle.std.proofs.Common.{◌≡◌, ◌||◌, ◌&&◌, not, Bool, true, false, List, [], ◌∷◌, ◌++◌, map, flat_map, refl, sym, ap, ◌∙◌}
use Rattle.std.specs.List.{list_any}
use Rattle.std.proofs.lemmas.List.Folds.{list_any-append}

pub first_false : (a b : Bool) → (a || b) ≡ false → a ≡ false
first_false true b e = absurd (cc e)
first_false false b e = refl

pub second_false : (a b : Bool) → (a || b) ≡ false → b ≡ false
second_false true b e = absurd (cc e)
second_false false b e = e

pub not_false : (b : Bool) → not b ≡ false → b ≡ true
not_false true e = refl
not_false false e = absurd (cc e)

pub left_true : (a b : Bool) → (a && b) ≡ true → a ≡ true
left_true true b e = refl
left_true false b e = absurd (cc e)

pub right_true : (a b : Bool) → (a && b) ≡ true → b ≡ true
right_true true b e = e
right_true false b e = absurd (cc e)

module _ {X : Type 0} (test : X → Bool) where
  pub in_front : (xs ys : List X) → list_any test (xs ++ ys) ≡ false → list_any test xs ≡ false
  in_front xs ys none = first_false (list_any test xs) (list_any test ys) (sym (list_any-append test xs ys) ∙ none)

  pub at_end : (xs ys : List X) → list_any test (xs ++ ys) ≡ false → list_any test ys ≡ false
  at_end xs ys none = second_false (list_any test xs) (list_any test ys) (sym (list_any-append test xs ys) ∙ none)

  pub none_joined : (xs ys : List X) → list_any test xs ≡ false → list_any test ys ≡ false → list_any test (xs ++ ys) ≡ false
  none_joined xs ys first second = list_any-append test xs ys ∙ (ap (λ (b : Bool). b || list_any test ys) first ∙ second)

-- of what items of a list come to, what one of them comes to
pub of_one : {X Y : Type 0} (test : X → Bool) (f : Y → List X) (before : List Y) (y : Y) (after : List Y) → list_any test (flat_map f (before ++ y ∷ after)) ≡ false → list_any test (f y) ≡ false
of_one test f [] y after none = in_front test (f y) (flat_map f after) none
of_one test f (z ∷ before) y after none = of_one test f before y after (at_end test (f z) (flat_map f (before ++ y ∷ after)) none)

pub none_mapped : {X Y : Type 0} (test : X → Bool) (f : Y → X) → ((y : Y) → test (f y) ≡ false) → (ys : List Y) → list_any test (map f ys) ≡ false
none_mapped test f each [] = refl
none_mapped test f each (y ∷ ys) = ap (λ (b : Bool). b || list_any test (map f ys)) (each y) ∙ none_mapped test f each ys
