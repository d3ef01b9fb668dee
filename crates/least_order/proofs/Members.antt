-- Numbers among joined lists.
use Rattle.std.proofs.Common.{◌≡◌, ℕ, inl, inr, ◌⊎◌, ⊎_elim, List, [], ◌∷◌, ◌++◌}
use Rattle.digraph.specs.Graphs.{Among}
use Rattle.least_order.specs.Orders.{Precedes}

pub among_append : (xs ys : List ℕ) (x : ℕ) → Among x (xs ++ ys) → Among x xs ⊎ Among x ys
among_append [] ys x h = inr h
among_append (y ∷ xs) ys x (inl e) = inl (inl e)
among_append (y ∷ xs) ys x (inr h) = ⊎_elim (λ l. inl (inr l)) (λ r. inr r) (among_append xs ys x h)

pub among_front : (xs ys : List ℕ) (x : ℕ) → Among x xs → Among x (xs ++ ys)
among_front [] ys x h = absurd h
among_front (y ∷ xs) ys x (inl e) = inl e
among_front (y ∷ xs) ys x (inr h) = inr (among_front xs ys x h)

pub among_behind : (xs ys : List ℕ) (x : ℕ) → Among x ys → Among x (xs ++ ys)
among_behind [] ys x h = h
among_behind (y ∷ xs) ys x h = inr (among_behind xs ys x h)

pub precedes_front : (xs ys : List ℕ) (x y : ℕ) → Precedes x y xs → Precedes x y (xs ++ ys)
precedes_front [] ys x y p = absurd p
precedes_front (z ∷ xs) ys x y (inl p) = inl (p.0, among_front xs ys y p.1)
precedes_front (z ∷ xs) ys x y (inr p) = inr (precedes_front xs ys x y p)

pub precedes_behind : (xs ys : List ℕ) (x y : ℕ) → Precedes x y ys → Precedes x y (xs ++ ys)
precedes_behind [] ys x y h = h
precedes_behind (z ∷ xs) ys x y h = inr (precedes_behind xs ys x y h)

-- a number of the first list stands in front of one of the second
pub precedes_across : (xs ys : List ℕ) (x y : ℕ) → Among x xs → Among y ys → Precedes x y (xs ++ ys)
precedes_across [] ys x y i j = absurd i
precedes_across (z ∷ xs) ys x y (inl e) j = inl (e, among_behind xs ys y j)
precedes_across (z ∷ xs) ys x y (inr i) j = inr (precedes_across xs ys x y i j)

-- a number more at the end
pub precedes_snoc : (xs : List ℕ) (z x y : ℕ) → Precedes x y (xs ++ z ∷ []) → Precedes x y xs ⊎ (Among x xs × (y ≡ z))
precedes_snoc [] z x y (inl h) = absurd h.1
precedes_snoc [] z x y (inr h) = absurd h
precedes_snoc (w ∷ xs) z x y (inl h) =
    ⊎_elim (λ i. inl (inl (h.0, i))) (λ r. ⊎_elim (λ e. inr (inl h.0, e)) (λ none. absurd none) r) (among_append xs (z ∷ []) y h.1)
precedes_snoc (w ∷ xs) z x y (inr h) =
    ⊎_elim (λ p. inl (inr p)) (λ r. inr (inr r.0, r.1)) (precedes_snoc xs z x y h)
