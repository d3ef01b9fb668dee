-- Orders of numbers, and the least of them.
use Rattle.std.specs.Prelude.{◌≡◌, ℕ, ◌<◌, ◌⊎◌, List, [], ◌∷◌, ◌↔◌}
use Rattle.digraph.specs.Graphs.{Among}

-- x stands in the list, and y at a place behind it
abbrev pub Precedes : ℕ → ℕ → List ℕ → Type 0
Precedes x y [] = ⊥
Precedes x y (z ∷ rest) = ((x ≡ z) × Among y rest) ⊎ Precedes x y rest

-- compared number by number from the front, the first list isn't behind the other
abbrev pub AtMost : List ℕ → List ℕ → Type 0
AtMost [] ys = Unit {0}
AtMost (x ∷ xs) [] = ⊥
AtMost (x ∷ xs) (y ∷ ys) = (x < y) ⊎ ((x ≡ y) × AtMost xs ys)

-- the list has each number of a set once, and no number stands behind one that it is before
pub record IsOrder (IsOne : ℕ → Type 0) (IsBefore : ℕ → ℕ → Type 0) (order : List ℕ) : Type 0 where
  pub each : (x : ℕ) → Among x order ↔ IsOne x
  pub once : (x : ℕ) → Precedes x x order → ⊥
  pub keeps : (x y : ℕ) → IsBefore x y → Precedes y x order → ⊥

-- the least of these lists
pub record IsLeastOrder (IsOne : ℕ → Type 0) (IsBefore : ℕ → ℕ → Type 0) (order : List ℕ) : Type 0 where
  pub is_order : IsOrder IsOne IsBefore order
  pub least : (other : List ℕ) → IsOrder IsOne IsBefore other → AtMost order other

-- there is no such list
abbrev pub HasNoOrder : (ℕ → Type 0) → (ℕ → ℕ → Type 0) → Type 0
HasNoOrder IsOne IsBefore = (order : List ℕ) → IsOrder IsOne IsBefore order → ⊥
