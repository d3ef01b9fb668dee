-- Sums and products that are counted up to a limit.
use Rattle.std.proofs.Common.{◌≡◌, ℕ, zero, suc, ◌+◌, ◌*◌, ◌/◌, ◌<◌, ◌≤◌, inl, inr, List, [], ◌∷◌, length, map, take, get_or, min, sum_by, refl, sym, ap, ◌∙◌, arith}
use Rattle.std.proofs.lemmas.Bool.{cases_lt}
use Rattle.std.proofs.lemmas.List.Sums.{sum_by-cons, sum_by_more}
use Rattle.p416_type_totals.specs.Limit.{limit, up_to}

past : (l x y : ℕ) → l ≤ x → l ≤ y → min l x ≡ min l y
past l x y a b = omega arith

at_least : (l a b : ℕ) → l ≤ b → l ≤ suc a * b
at_least l a b le = omega arith

grown : (l a b : ℕ) → l ≤ b → min l (a * l) ≡ min l (a * b)
grown l zero b le = let e : zero * l ≡ zero * b = omega arith in ap (min l) e
grown l (suc a) b le = past l (suc a * l) (suc a * b) (at_least l a l (omega arith)) (at_least l a b le)

turned : (l a b : ℕ) → min l (a * b) ≡ min l (b * a)
turned l a b = let e : a * b ≡ b * a = omega arith in ap (min l) e

below : (l a : ℕ) → a < l → min l a ≡ a
below l a lt = omega arith

above : (l a : ℕ) → l ≤ a → min l a ≡ l
above l a le = omega arith

pub capped_product : (l a b : ℕ) → min l (min l a * min l b) ≡ min l (a * b)
capped_product l a b =
    elim (cases_lt a l) [
      | inl lt ↦ ap (λ x. min l (x * min l b)) (below l a lt) ∙ elim (cases_lt b l) [
        | inl small ↦ ap (λ x. min l (a * x)) (below l b small)
        | inr large ↦ ap (λ x. min l (a * x)) (above l b large) ∙ grown l a b large
      ]
      | inr le ↦ ap (λ x. min l (x * min l b)) (above l a le) ∙ elim (cases_lt b l) [
        | inl small ↦ ap (λ x. min l (l * x)) (below l b small) ∙ (turned l l b ∙ (grown l b a le ∙ turned l b a))
        | inr large ↦ ap (λ x. min l (l * x)) (above l b large) ∙ (grown l l b large ∙ (turned l l b ∙ (grown l b a le ∙ turned l b a)))
      ]
    ]

pub product_within : (size one a b most : ℕ) → a ≡ up_to size → b ≡ up_to one → most ≡ up_to (a * b) → most ≡ up_to (size * one)
product_within size one a b most e f g = g ∙ (ap (λ x. up_to (x * b)) e ∙ (ap (λ x. up_to (up_to size * x)) f ∙ capped_product limit size one))

capped_factor : (l s h : ℕ) → min l (s * min l h) ≡ min l (s * h)
capped_factor l s h =
    let twice : min l (min l h) ≡ min l h = omega arith in
    sym (capped_product l s (min l h)) ∙ (ap (λ x. min l (min l s * x)) twice ∙ capped_product l s h)

pub times_within : (size h one found : ℕ) → one ≡ up_to h → found ≡ up_to (size * one) → found ≡ up_to (size * h)
times_within size h one found e f = f ∙ (ap (λ x. up_to (size * x)) e ∙ capped_factor limit size h)

pub octets_within : (bits : ℕ) → min 8388608 bits / 8 ≡ min 1048576 (bits / 8)
octets_within bits = omega arith

-- a loop that adds

pub sum_of_map : {X Y : Type 0} (F : Y → ℕ) (g : X → Y) (xs : List X) → sum_by F (map g xs) ≡ sum_by (λ x. F (g x)) xs
sum_of_map F g [] = refl
sum_of_map F g (x ∷ xs) = sum_by-cons F (g x) (map g xs) ∙ (ap (λ n. F (g x) + n) (sum_of_map F g xs) ∙ sym (sum_by-cons (λ y. F (g y)) x xs))

capped_more : (l a b so_far new : ℕ) → so_far ≡ min l a → new ≡ min l (so_far + b) → new ≡ min l (a + b)
capped_more l a b so_far new e f = omega arith

pub sum_now : {X Y : Type 0} (l : ℕ) (F : Y → ℕ) (g : X → Y) (xs : List X) (i : ℕ) (item : X) (so_far x new : ℕ) → i < length xs → item ≡ get_or xs i item → so_far ≡ min l (sum_by F (map g (take i xs))) → x ≡ F (g item) → new ≡ min l (so_far + x) → new ≡ min l (sum_by F (map g (take (i + 1) xs)))
sum_now l F g xs i item so_far x new lt here so is now =
    capped_more l (sum_by (λ y. F (g y)) (take i xs)) (F (g (get_or xs i item))) so_far new (so ∙ ap (min l) (sum_of_map F g (take i xs))) (now ∙ ap (λ y. min l (so_far + y)) (is ∙ ap (λ y. F (g y)) here))
    ∙ ap (min l) (sym (sum_of_map F g (take (i + 1) xs) ∙ sum_by_more (λ y. F (g y)) xs i item lt))

-- terms that are capped by themselves
pub capped_terms : {X : Type 0} (l : ℕ) (f : X → ℕ) (xs : List X) → min l (sum_by (λ x. min l (f x)) xs) ≡ min l (sum_by f xs)
capped_terms l f [] = refl
capped_terms l f (x ∷ xs) =
    let a = sum_by-cons (λ y. min l (f y)) x xs in
    let b = sum_by-cons f x xs in
    let c = capped_terms l f xs in
    omega (arith, a, b, c)
