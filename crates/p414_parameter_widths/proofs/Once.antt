-- Nodes that stand once in an order are no more than there are.
use Rattle.std.proofs.Common.{◌≡◌, ℕ, ◌<◌, ◌≤◌, inl, inr, Bool, true, false, ◌||◌, nat_eq, List, [], ◌∷◌, length, refl}
use Rattle.std.specs.List.{list_any, AllByRecursion, IsDistinct}
use Rattle.std.proofs.lemmas.Bool.{eqb-true, ne_eqb}
use Rattle.std.proofs.lemmas.Map.Keys.{IsDistinct-cons}
use Rattle.std.proofs.lemmas.Map.Steps.{length-le_from_distinct_below}
use Rattle.digraph.specs.Graphs.{Among}
use Rattle.digraph.specs.Components.{StandOnce}

apart : (x : ℕ) (xs : List ℕ) → (Among x xs → ⊥) → AllByRecursion (λ y. nat_eq x y ≡ false) xs
apart x [] never = tt
apart x (y ∷ xs) never = (ne_eqb x y (λ e. never (inl e)), apart x xs (λ h. never (inr h)))

none : IsDistinct nat_eq []
unfolding IsDistinct
none = tt

distinct : (xs : List ℕ) → StandOnce xs → IsDistinct nat_eq xs
distinct [] once = none
distinct (x ∷ xs) once = IsDistinct-cons nat_eq x xs (apart x xs once.0) (distinct xs once.1)

by_first : (q x : ℕ) (xs : List ℕ) (b : Bool) → nat_eq q x ≡ b → (b || list_any (nat_eq q) xs) ≡ true → (list_any (nat_eq q) xs ≡ true → Among q xs) → Among q (x ∷ xs)
by_first q x xs true is e more = inl (eqb-true q x is)
by_first q x xs false is e more = inr (more e)

among : (q : ℕ) (xs : List ℕ) → list_any (nat_eq q) xs ≡ true → Among q xs
among q [] e = absurd (cc e)
among q (x ∷ xs) e = by_first q x xs (nat_eq q x) refl e (among q xs)

pub no_more : (xs : List ℕ) (n : ℕ) → StandOnce xs → ((b : ℕ) → Among b xs → b < n) → length xs ≤ n
no_more xs n once below = length-le_from_distinct_below xs n (distinct xs once) (λ q e. below q (among q xs e))
