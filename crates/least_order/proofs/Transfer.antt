-- The orders of labels are those of the constraint graph, and so is the least one.
use Rattle.std.proofs.Common.{◌≡◌, ℕ, ◌⊎◌, inl, inr, ⊎_elim, List, [], ◌∷◌, sym, ◌∙◌, subst}
use Rattle.digraph.specs.Graphs.{Among}
use Rattle.least_order.specs.Orders.{Precedes, IsOrder, IsLeastOrder}
use Rattle.least_order.specs.Labelled.{IsFound, IsBefore}
use Rattle.least_order.proofs.Chaining.{Chain, Same, Step}

pub front_is : (x y : ℕ) (o : List ℕ) → Precedes x y o → Among x o
front_is x y [] p = absurd p
front_is x y (z ∷ o) (inl p) = inl p.0
front_is x y (z ∷ o) (inr p) = inr (front_is x y o p)

pub behind_is : (x y : ℕ) (o : List ℕ) → Precedes x y o → Among y o
behind_is x y [] p = absurd p
behind_is x y (z ∷ o) (inl p) = inr p.1
behind_is x y (z ∷ o) (inr p) = inr (behind_is x y o p)

-- two numbers of a list are the same, or one stands behind the other
pub either_way : (x y : ℕ) (o : List ℕ) → Among x o → Among y o → (x ≡ y) ⊎ (Precedes x y o ⊎ Precedes y x o)
either_way x y [] i j = absurd i
either_way x y (z ∷ o) (inl e) (inl f) = inl (e ∙ sym f)
either_way x y (z ∷ o) (inl e) (inr j) = inr (inl (inl (e, j)))
either_way x y (z ∷ o) (inr i) (inl f) = inr (inr (inl (f, i)))
either_way x y (z ∷ o) (inr i) (inr j) =
    ⊎_elim (λ e. inl e) (λ p. ⊎_elim (λ l. inr (inl (inr l))) (λ r. inr (inr (inr r))) p) (either_way x y o i j)

precedes_on : (x y z : ℕ) (o : List ℕ) → ((w : ℕ) → Precedes w w o → ⊥) → Precedes x y o → Precedes y z o → Precedes x z o
precedes_on x y z [] once p q = absurd p
precedes_on x y z (w ∷ o) once (inl p) (inl q) = absurd (once y (inl (q.0, p.1)))
precedes_on x y z (w ∷ o) once (inl p) (inr q) = inl (p.0, behind_is y z o q)
precedes_on x y z (w ∷ o) once (inr p) (inl q) = absurd (once y (inl (q.0, behind_is x y o p)))
precedes_on x y z (w ∷ o) once (inr p) (inr q) = inr (precedes_on x y z o (λ v r. once v (inr r)) p q)

module _ (g labels : List (List ℕ)) (start : ℕ) where
  -- an order that inverts no pair inverts no chain
  pub keeps_chain : (o : List ℕ) (y x : ℕ) → IsOrder (IsFound g labels start) (IsBefore g labels start) o → ((z w : ℕ) → IsBefore g labels start z w → IsFound g labels start w) → Chain g labels start y x → Precedes y x o → ⊥
  keeps_chain o y x h found (Same w e) p = h.once y (subst (λ z. Precedes y z o) e p)
  keeps_chain o y x h found (Step w z before rest) p =
      ⊎_elim
      (λ same. before.0 same)
      (λ way. ⊎_elim (λ forth. keeps_chain o y z h found rest (precedes_on y x z o h.once p forth)) (λ back. h.keeps x z before back) way)
      (either_way x z o (behind_is y x o p) ((h.each z).1 (found x z before)))

-- two ways to say what is one and what is before give the same orders, and so the same least one
pub same_least : (One Other : ℕ → Type 0) (Before Earlier : ℕ → ℕ → Type 0) (o : List ℕ)
    → ((xs : List ℕ) → IsOrder One Before xs → IsOrder Other Earlier xs) → ((xs : List ℕ) → IsOrder Other Earlier xs → IsOrder One Before xs)
    → IsLeastOrder One Before o → IsLeastOrder Other Earlier o
same_least One Other Before Earlier o forth back h =
    record { is_order = forth o h.is_order; least = λ xs i. h.least xs (back xs i) }
