-- The graph of named nodes while it is built.
use Rattle.std.specs.Prelude.{ℕ, List, fold}
use Rattle.digraph.specs.Graphs.{with_edge}

-- the graph with further edges from its last node
abbrev pub with_edges : List (List ℕ) → List ℕ → List (List ℕ)
with_edges g targets = fold with_edge g targets
