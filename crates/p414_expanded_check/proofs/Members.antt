-- What stands in a list.
use Rattle.std.proofs.Common.{◌≡◌, ℕ, suc, zero, Bool, true, false, ◌||◌, ◌<◌, List, [], ◌∷◌, ◌++◌, length, get_or, flat_map, map, slice_get, inl, inr, Some, refl, sym, ap, ◌∙◌, subst, arith}
use Rattle.std.specs.List.{list_any}
use Rattle.p414_expanded_check.specs.internal.Passing.{In}

first_false : (a b : Bool) → (a || b) ≡ false → a ≡ false
first_false true b e = e
first_false false b e = refl

second_false : (a b : Bool) → (a || b) ≡ false → b ≡ false
second_false true b e = absurd (cc e)
second_false false b e = e

pub none_of : {X : Type 0} (p : X → Bool) (xs : List X) (x : X) → list_any p xs ≡ false → In x xs → p x ≡ false
none_of p [] x e h = absurd h
none_of p (y ∷ ys) x e (inl h) = ap p h ∙ first_false (p y) (list_any p ys) e
none_of p (y ∷ ys) x e (inr h) = none_of p ys x (second_false (p y) (list_any p ys) e) h

pub none_in : {X : Type 0} (p : X → Bool) (xs : List X) → ((x : X) → In x xs → p x ≡ false) → list_any p xs ≡ false
none_in p [] h = refl
none_in p (y ∷ ys) h = ap (λ b. b || list_any p ys) (h y (inl refl)) ∙ none_in p ys (λ x m. h x (inr m))

pub in_first : {X : Type 0} (x : X) (xs ys : List X) → In x xs → In x (xs ++ ys)
in_first x [] ys h = absurd h
in_first x (z ∷ xs) ys (inl e) = inl e
in_first x (z ∷ xs) ys (inr h) = inr (in_first x xs ys h)

pub in_second : {X : Type 0} (x : X) (xs ys : List X) → In x ys → In x (xs ++ ys)
in_second x [] ys h = h
in_second x (z ∷ xs) ys h = inr (in_second x xs ys h)

pub in_flat : {X Y : Type 0} (f : X → List Y) (xs : List X) (x : X) (y : Y) → In x xs → In y (f x) → In y (flat_map f xs)
in_flat f [] x y h m = absurd h
in_flat f (z ∷ xs) x y (inl e) m = in_first y (f z) (flat_map f xs) (subst (λ w. In y (f w)) e m)
in_flat f (z ∷ xs) x y (inr h) m = in_second y (f z) (flat_map f xs) (in_flat f xs x y h m)

pub in_map : {X Y : Type 0} (f : X → Y) (xs : List X) (x : X) → In x xs → In (f x) (map f xs)
in_map f [] x h = absurd h
in_map f (z ∷ xs) x (inl e) = inl (ap f e)
in_map f (z ∷ xs) x (inr h) = inr (in_map f xs x h)

pub in_got : {X : Type 0} (xs : List X) (n : ℕ) (x : X) → slice_get xs n ≡ Some x → In x xs
in_got [] n x e = absurd (cc e)
in_got (y ∷ ys) zero x e = inl (sym (cc e))
in_got (y ∷ ys) (suc n) x e = inr (in_got ys n x e)

pub in_at : {X : Type 0} (xs : List X) (n : ℕ) (d : X) → n < length xs → In (get_or xs n d) xs
in_at [] n d h = absurd (omega arith)
in_at (x ∷ xs) zero d h = inl refl
in_at (x ∷ xs) (suc n) d h = inr (in_at xs n d (omega arith))
