-- Directed graphs, and the walks in them.
use Rattle.std.specs.Prelude.{◌≡◌, ℕ, ◌<◌, ◌≤◌, ◌⊎◌, List, [], ◌∷◌, ◌++◌, length, slice_index_or, Bool, true, false, ◌↔◌}

-- x is one of these numbers
abbrev pub Among : ℕ → List ℕ → Type 0
Among x [] = ⊥
Among x (y ∷ ys) = (x ≡ y) ⊎ Among x ys

-- a graph is the list of each node's successors, in order: what node a leads to by one edge
abbrev pub successors : List (List ℕ) → ℕ → List ℕ
successors g a = slice_index_or g a []

-- an edge leads from a to b
abbrev pub IsEdge : List (List ℕ) → ℕ → ℕ → Type 0
IsEdge g a b = Among b (successors g a)

-- one edge after another, and at least one, leads to c
pub data WalkTo (g : List (List ℕ)) (c : ℕ) : ℕ → Type 0 where
  Edge : (a : ℕ) → IsEdge g a c → WalkTo g c a
  Onward : (a b : ℕ) → IsEdge g a b → WalkTo g c b → WalkTo g c a

-- a walk leads from a to b
abbrev pub Walk : List (List ℕ) → ℕ → ℕ → Type 0
Walk g a b = WalkTo g b a

-- b is a, or a walk leads from a to b
abbrev pub Reaches : List (List ℕ) → ℕ → ℕ → Type 0
Reaches g a b = (a ≡ b) ⊎ Walk g a b

-- a lies on a cycle: a walk leads from a back to a
abbrev pub OnCycle : List (List ℕ) → ℕ → Type 0
OnCycle g a = Walk g a a

-- a lies on a cycle, and no lesser node does
abbrev pub IsLeastOnCycle : List (List ℕ) → ℕ → Type 0
IsLeastOnCycle g a = OnCycle g a × ((b : ℕ) → OnCycle g b → a ≤ b)

-- each edge leads to a node of the graph
pub record IsClosed (g : List (List ℕ)) : Type 0 where
  pub within : (a b : ℕ) → IsEdge g a b → b < length g

-- the graph with a further edge from its last node
abbrev pub with_edge : List (List ℕ) → ℕ → List (List ℕ)
with_edge [] target = []
with_edge (targets ∷ []) target = (targets ++ target ∷ []) ∷ []
with_edge (targets ∷ next ∷ rest) target = targets ∷ with_edge (next ∷ rest) target

-- these say of each node whether it is reached
pub record AreReached (g : List (List ℕ)) (from : ℕ) (reached : List Bool) : Type 0 where
  pub each : length reached ≡ length g
  pub exact : (a : ℕ) → a < length g → (slice_index_or reached a false ≡ true) ↔ Reaches g from a
