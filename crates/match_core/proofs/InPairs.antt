-- What holds of each two items of a list, up to a number.
use Rattle.std.proofs.Common.{ℕ, ◌+◌, ◌-◌, ◌<◌, ◌≤◌, inl, inr, List, get_or, subst, arith}
use Rattle.std.proofs.lemmas.Bool.{cases_eq}

-- each of the first items with each later one of them
abbrev pub PairsBelow : {X : Type 0} → (X → X → Type 0) → List X → ℕ → Type 0
PairsBelow {X} R xs n = (i j : ℕ) (d : X) → i < j → j < n → R (get_or xs i d) (get_or xs j d)

-- one more item, with each of those before it
pub pairs_more : {X : Type 0} (R : X → X → Type 0) (xs : List X) (n : ℕ) → PairsBelow R xs n → ((i : ℕ) (d : X) → i < n → R (get_or xs i d) (get_or xs n d)) → PairsBelow R xs (n + 1)
pairs_more {X} R xs n pairs here i j d below within =
    elim (cases_eq n j) [
      | inl same ↦ subst (λ (k : ℕ). R (get_or xs i d) (get_or xs k d)) same (here i d (omega arith))
      | inr apart ↦ pairs i j d below (omega arith)
    ]

-- one more item, which the last one stands before
pub pairs_chain : {X : Type 0} (R : X → X → Type 0) → ((a b c : X) → R a b → R b c → R a c) → (xs : List X) (n : ℕ) → 1 ≤ n → PairsBelow R xs n → ((d : X) → R (get_or xs (n - 1) d) (get_or xs n d)) → PairsBelow R xs (n + 1)
pairs_chain {X} R trans xs n one pairs next =
    pairs_more R xs n pairs
    (λ i d below.
    elim (cases_eq (n - 1) i) [
      | inl same ↦ subst (λ (k : ℕ). R (get_or xs k d) (get_or xs n d)) same (next d)
      | inr apart ↦ trans (get_or xs i d) (get_or xs (n - 1) d) (get_or xs n d) (pairs i (n - 1) d (omega arith) (omega arith)) (next d)
    ])
