-- Walks in a graph, whose nodes are numbers and whose edges are a function: what a node leads to, in order.
use Rattle.std.specs.Prelude.{ℕ, List, [], ◌∷◌, ◌++◌, Contains}

-- A walk: nodes one after another, each leading to the next. It may pass a node more than once.
abbrev pub IsWalk : (ℕ → List ℕ) → List ℕ → Type 0
IsWalk next [] = Unit {0}
IsWalk next (a ∷ []) = Unit {0}
IsWalk next (a ∷ b ∷ rest) = Contains (next a) b × IsWalk next (b ∷ rest)

-- a walk of two nodes or more that ends where it begins
abbrev pub IsCycle : (ℕ → List ℕ) → ℕ → List ℕ → Type 0
IsCycle next a between = IsWalk next (a ∷ between ++ a ∷ [])
