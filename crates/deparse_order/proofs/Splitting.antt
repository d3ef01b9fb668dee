-- Lists split at one of their numbers, or at two.
use Rattle.std.proofs.Common.{◌≡◌, ℕ, ◌⊎◌, inl, inr, ⊎_elim, List, [], ◌∷◌, ◌++◌, Contains, refl, sym, ap, ◌∙◌, subst}
use Rattle.digraph.specs.Graphs.{Among}
use Rattle.digraph.proofs.Members.{among_place, place_among}
use Rattle.least_order.specs.Orders.{Precedes}
use Rattle.least_order.proofs.Members.{among_append, among_behind}

pub contains_of : (xs : List ℕ) (x : ℕ) → Among x xs → Contains xs x
contains_of xs x among = place_among xs x x among

pub among_of : (xs : List ℕ) (x : ℕ) → Contains xs x → Among x xs
among_of xs x has = subst (λ (y : ℕ). Among y xs) has.2 (among_place xs has.0 x has.1)

place_of : (y : ℕ) (xs : List ℕ) → Among y xs → (before : List ℕ) × (behind : List ℕ) × (xs ≡ before ++ y ∷ behind)
place_of y [] i = absurd i
place_of y (z ∷ xs) (inl e) = ([], xs, ap (λ w. w ∷ xs) (sym e))
place_of y (z ∷ xs) (inr i) = let s = place_of y xs i in (z ∷ s.0, s.1, ap (λ ws. z ∷ ws) s.2)

pub split_of : (x y : ℕ) (xs : List ℕ) → Precedes x y xs → (before : List ℕ) × (between : List ℕ) × (behind : List ℕ) × (xs ≡ before ++ x ∷ between ++ y ∷ behind)
split_of x y [] p = absurd p
split_of x y (z ∷ xs) (inl h) = let s = place_of y xs h.1 in ([], s.0, s.1, ap (λ w. w ∷ xs) (sym h.0) ∙ ap (λ ws. x ∷ ws) s.2)
split_of x y (z ∷ xs) (inr h) = let s = split_of x y xs h in (z ∷ s.0, s.1, s.2, ap (λ ws. z ∷ ws) s.3)

pub of_split : (x y : ℕ) (before between behind : List ℕ) → Precedes x y (before ++ x ∷ between ++ y ∷ behind)
of_split x y [] between behind = inl (refl, among_behind between (y ∷ behind) y (inl refl))
of_split x y (z ∷ before) between behind = inr (of_split x y before between behind)

-- numbers of joined lists, one behind the other
pub precedes_append : (xs ys : List ℕ) (x y : ℕ) → Precedes x y (xs ++ ys) → Precedes x y xs ⊎ ((Among x xs × Among y ys) ⊎ Precedes x y ys)
precedes_append [] ys x y p = inr (inr p)
precedes_append (z ∷ xs) ys x y (inl h) =
    ⊎_elim (λ i. inl (inl (h.0, i))) (λ j. inr (inl (inl h.0, j))) (among_append xs ys y h.1)
precedes_append (z ∷ xs) ys x y (inr h) =
    ⊎_elim (λ p. inl (inr p)) (λ r. ⊎_elim (λ across. inr (inl (inr across.0, across.1))) (λ q. inr (inr q)) r) (precedes_append xs ys x y h)
