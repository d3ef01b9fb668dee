-- Members of lists, and tests of them.
use Rattle.std.proofs.Common.{◌≡◌, ◌⊎◌, inl, inr, ℕ, zero, suc, Bool, true, false, ◌||◌, not, Option, Some, None, List, [], ◌∷◌, ◌++◌, length, ◌≤◌, map, refl, sym, ap, ◌∙◌, subst, arith}
use Rattle.std.specs.Prelude.{filter_map, flat_map, slice_get, IsTrue}
use Rattle.std.specs.List.{list_any, cons_option, AllByRecursion}
use Rattle.std.specs.Str.{bytes_eq}
use Rattle.std.proofs.lemmas.List.Concat.{flat_map-cons}
use Rattle.std.proofs.lemmas.Slice.Eq.{bytes_eq-Decides}
use Rattle.lower_laws_states.specs.Expansions.{Has}

pub has_left : {X : Type 0} (xs ys : List X) (x : X) → Has xs x → Has (xs ++ ys) x
has_left [] ys x h = absurd h
has_left (y ∷ xs) ys x (inl e) = inl e
has_left (y ∷ xs) ys x (inr h) = inr (has_left xs ys x h)

pub has_right : {X : Type 0} (xs ys : List X) (x : X) → Has ys x → Has (xs ++ ys) x
has_right [] ys x h = h
has_right (y ∷ xs) ys x h = inr (has_right xs ys x h)

pub has_apart : {X : Type 0} (xs ys : List X) (x : X) → Has (xs ++ ys) x → Has xs x ⊎ Has ys x
has_apart [] ys x h = inr h
has_apart (y ∷ xs) ys x (inl e) = inl (inl e)
has_apart {X} (y ∷ xs) ys x (inr h) = by (has_apart xs ys x h) where
  by : Has xs x ⊎ Has ys x → Has (y ∷ xs) x ⊎ Has ys x
  by (inl a) = inl (inr a)
  by (inr b) = inr b

pub has_joined : {X Y : Type 0} (f : X → List Y) (xs : List X) (x : X) (y : Y) → Has xs x → Has (f x) y → Has (flat_map f xs) y
has_joined f [] x y h k = absurd h
has_joined {X} {Y} f (z ∷ xs) x y (inl e) k = subst (λ (l : List Y). Has l y) (sym (flat_map-cons f z xs)) (has_left (f z) (flat_map f xs) y (subst (λ (w : X). Has (f w) y) (sym e) k))
has_joined {X} {Y} f (z ∷ xs) x y (inr h) k = subst (λ (l : List Y). Has l y) (sym (flat_map-cons f z xs)) (has_right (f z) (flat_map f xs) y (has_joined f xs x y h k))

pub joined_has : {X Y : Type 0} (f : X → List Y) (xs : List X) (y : Y) → Has (flat_map f xs) y → (x : X) × Has xs x × Has (f x) y
joined_has f [] y h = absurd h
joined_has {X} {Y} f (z ∷ xs) y h = by (has_apart (f z) (flat_map f xs) y (subst (λ (l : List Y). Has l y) (flat_map-cons f z xs) h)) (joined_has f xs y) where
  by : Has (f z) y ⊎ Has (flat_map f xs) y → (Has (flat_map f xs) y → (x : X) × Has xs x × Has (f x) y) → (x : X) × Has (z ∷ xs) x × Has (f x) y
  by (inl a) rest = (z, inl refl, a)
  by (inr b) rest = let r = rest b in (r.0, inr r.1, r.2)

pub has_mapped : {X Y : Type 0} (f : X → Y) (xs : List X) (x : X) → Has xs x → Has (map f xs) (f x)
has_mapped f [] x h = absurd h
has_mapped f (z ∷ xs) x (inl e) = inl (ap f e)
has_mapped f (z ∷ xs) x (inr h) = inr (has_mapped f xs x h)

pub mapped_has : {X Y : Type 0} (f : X → Y) (xs : List X) (y : Y) → Has (map f xs) y → (x : X) × Has xs x × (f x ≡ y)
mapped_has f [] y h = absurd h
mapped_has f (z ∷ xs) y (inl e) = (z, inl refl, e)
mapped_has f (z ∷ xs) y (inr h) = let r = mapped_has f xs y h in (r.0, inr r.1, r.2)

-- what a function picks
pub picked_has : {X Y : Type 0} (f : X → Option Y) (xs : List X) (y : Y) → Has (filter_map f xs) y → (x : X) × Has xs x × (f x ≡ Some y)
picked_has f [] y h = absurd h
picked_has {X} {Y} f (z ∷ xs) y h = by (f z) refl h (picked_has f xs y) where
  by : (o : Option Y) → f z ≡ o → Has (cons_option o (filter_map f xs)) y → (Has (filter_map f xs) y → (x : X) × Has xs x × (f x ≡ Some y)) → (x : X) × Has (z ∷ xs) x × (f x ≡ Some y)
  by None is h rest = let r = rest h in (r.0, inr r.1, r.2)
  by (Some w) is (inl e) rest = (z, inl refl, is ∙ ap Some e)
  by (Some w) is (inr h) rest = let r = rest h in (r.0, inr r.1, r.2)

pub has_picked : {X Y : Type 0} (f : X → Option Y) (xs : List X) (x : X) (y : Y) → Has xs x → f x ≡ Some y → Has (filter_map f xs) y
has_picked f [] x y h e = absurd h
has_picked {X} {Y} f (z ∷ xs) x y (inl same) e = subst (λ (o : Option Y). Has (cons_option o (filter_map f xs)) y) (sym (ap f same ∙ e)) (inl refl)
has_picked {X} {Y} f (z ∷ xs) x y (inr h) e = by (f z) (has_picked f xs x y h e) where
  by : (o : Option Y) → Has (filter_map f xs) y → Has (cons_option o (filter_map f xs)) y
  by None h = h
  by (Some w) h = inr h

pub has_at : {X : Type 0} (xs : List X) (n : ℕ) (x : X) → slice_get xs n ≡ Some x → Has xs x
has_at [] n x e = absurd (cc e)
has_at (y ∷ xs) zero x e = inl (cc e)
has_at (y ∷ xs) (suc n) x e = inr (has_at xs n x e)

pub each_has : {X : Type 0} (P : X → Type 0) (xs : List X) → ((x : X) → Has xs x → P x) → AllByRecursion P xs
each_has P [] h = tt
each_has P (x ∷ xs) h = (h x (inl refl), each_has P xs (λ y k. h y (inr k)))

pub has_each : {X : Type 0} (P : X → Type 0) (xs : List X) (x : X) → AllByRecursion P xs → Has xs x → P x
has_each P [] x all h = absurd h
has_each P (y ∷ xs) x all (inl e) = subst P e all.0
has_each P (y ∷ xs) x all (inr h) = has_each P xs x all.1 h

pub each_weaker : {X : Type 0} (P Q : X → Type 0) → ((x : X) → P x → Q x) → (xs : List X) → AllByRecursion P xs → AllByRecursion Q xs
each_weaker P Q h [] all = tt
each_weaker P Q h (x ∷ xs) all = (h x all.0, each_weaker P Q h xs all.1)

pub none_past : {X : Type 0} (xs : List X) (i : ℕ) → slice_get xs i ≡ None → length xs ≤ i
none_past [] i e = omega arith
none_past (x ∷ xs) zero e = absurd (cc e)
none_past (x ∷ xs) (suc i) e = omega (arith, none_past xs i e)

-- tests

pub neither : (a b : Bool) → a || b ≡ false → (a ≡ false) × (b ≡ false)
neither true b e = absurd (cc e)
neither false b e = (refl, e)

pub not_true : (b : Bool) → (IsTrue b → ⊥) → b ≡ false
not_true true h = absurd (h refl)
not_true false h = refl

pub of_not : (b : Bool) → not b ≡ false → b ≡ true
of_not true e = refl
of_not false e = absurd (cc e)

-- a test that none passes
pub none_passes : {X : Type 0} (p : X → Bool) (xs : List X) (x : X) → list_any p xs ≡ false → Has xs x → p x ≡ false
none_passes p [] x e h = absurd h
none_passes p (y ∷ xs) x e (inl is) = ap p (sym is) ∙ (neither (p y) (list_any p xs) e).0
none_passes p (y ∷ xs) x e (inr h) = none_passes p xs x (neither (p y) (list_any p xs) e).1 h

pub same_name : (a b : List ℕ) → bytes_eq a b ≡ true → a ≡ b
same_name a b e = (bytes_eq-Decides a b).0 e
