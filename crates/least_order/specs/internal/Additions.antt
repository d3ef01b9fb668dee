-- Edges that are added to a graph.
use Rattle.std.specs.Prelude.{ℕ, ◌⊎◌, ◌↔◌, List}
use Rattle.digraph.specs.Graphs.{IsEdge}

-- the new graph has the edges of the old one and these
abbrev pub AddsEdges : List (List ℕ) → List (List ℕ) → (ℕ → ℕ → Type 0) → Type 0
AddsEdges old new More = (a b : ℕ) → IsEdge new a b ↔ (IsEdge old a b ⊎ More a b)
