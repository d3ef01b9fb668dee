-- Lists that are made one by one, where each of them may be none.
use Rattle.std.proofs.Common.{◌≡◌, ℕ, ◌+◌, ◌<◌, List, [], ◌∷◌, ◌++◌, length, map, get_or, drop, Option, Some, None, refl, sym, ap, ◌∙◌, drop-cons, add-one}
use Rattle.std.proofs.lemmas.List.{append_assoc, append-nil}
use Rattle.v1_ready_statements.specs.Given.{cons_option}
use Rattle.v1_ready_statements.specs.Blocks.{all_of}
use Rattle.v1_ready_bodies.specs.Fronts.{in_front}

pub next_items : {X : Type 0} (xs : List X) (i : ℕ) (d : X) → i < length xs → drop i xs ≡ get_or xs i d ∷ drop (i + 1) xs
next_items xs i d h = rw (add-one, drop-cons xs i d h) refl

with_one : {B : Type 0} (ys : List B) (y : B) (rest : Option (List B)) → in_front (ys ++ y ∷ []) rest ≡ in_front ys (cons_option (Some y) rest)
with_one ys y None = refl
with_one ys y (Some rest) = ap Some (append_assoc ys (y ∷ []) rest)

-- what is left is one and what is behind it
module _ {B : Type 0} (left behind : Option (List B)) (one : Option B) (first : left ≡ cons_option one behind) where
  pub one_on : (ys : List B) (y : B) (due : Option (List B)) → Some y ≡ one → in_front ys left ≡ due → in_front (ys ++ y ∷ []) behind ≡ due
  one_on ys y due is so =
      with_one ys y behind
      ∙ (ap (λ (o : Option B). in_front ys (cons_option o behind)) is
      ∙ (ap (in_front ys) (sym first) ∙ so))

  pub none_on : (ys : List B) (due : Option (List B)) → None ≡ one → in_front ys left ≡ due → None ≡ due
  none_on ys due is so =
      ap (λ (o : Option B). in_front ys (cons_option o behind)) is
      ∙ (ap (in_front ys) (sym first) ∙ so)

module _ {A B : Type 0} (f : A → Option B) (xs : List A) (i : ℕ) (x : A) (lt : i < length xs) (at : x ≡ get_or xs i x) where
  pub next : all_of f (drop i xs) ≡ cons_option (f x) (all_of f (drop (i + 1) xs))
  next = ap (all_of f) (next_items xs i x lt ∙ ap (λ (y : A). y ∷ drop (i + 1) xs) (sym at))

  pub one_more : (ys : List B) (y : B) (due : Option (List B)) → Some y ≡ f x → in_front ys (all_of f (drop i xs)) ≡ due → in_front (ys ++ y ∷ []) (all_of f (drop (i + 1) xs)) ≡ due
  one_more = one_on (all_of f (drop i xs)) (all_of f (drop (i + 1) xs)) (f x) next

  pub none_more : (ys : List B) (due : Option (List B)) → None ≡ f x → in_front ys (all_of f (drop i xs)) ≡ due → None ≡ due
  none_more = none_on (all_of f (drop i xs)) (all_of f (drop (i + 1) xs)) (f x) next

pub all_ready : {B : Type 0} (ys : List B) (due : Option (List B)) → in_front ys (Some []) ≡ due → Some ys ≡ due
all_ready ys due so = ap Some (sym (append-nil ys)) ∙ so

-- by functions that agree, and of what others are

pub all_same : {A B : Type 0} (f g : A → Option B) → ((x : A) → f x ≡ g x) → (xs : List A) → all_of f xs ≡ all_of g xs
all_same f g same [] = refl
all_same f g same (x ∷ xs) = ap (λ o. cons_option o (all_of f xs)) (same x) ∙ ap (cons_option (g x)) (all_same f g same xs)

pub all_mapped : {A B C : Type 0} (f : B → Option C) (h : A → B) (xs : List A) → all_of (λ (x : A). f (h x)) xs ≡ all_of f (map h xs)
all_mapped f h [] = refl
all_mapped f h (x ∷ xs) = ap (cons_option (f (h x))) (all_mapped f h xs)
