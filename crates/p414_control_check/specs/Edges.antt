-- Edges that are added to a graph.
use Rattle.std.specs.Prelude.{ℕ, List, [], ◌∷◌}
use Rattle.digraph.specs.Graphs.{with_edge}

-- a graph with further edges from its last node
abbrev pub with_edges : List (List ℕ) → List ℕ → List (List ℕ)
with_edges g [] = g
with_edges g (target ∷ targets) = with_edges (with_edge g target) targets
