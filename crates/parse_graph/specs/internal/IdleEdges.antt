-- The states that extract nothing as a graph of their own.
use Rattle.std.specs.Prelude.{ℕ, Bool, true, false, if◌then◌else◌, List, [], ◌∷◌, map, filter, fold}
use Rattle.digraph.specs.Graphs.{with_edge}
use Rattle.parse_graph.specs.declared.nodes.StateNode.{StateNode}
use Rattle.parse_graph.specs.Graphs.{extracts_at}

abbrev pub is_none : List ℕ → Bool
is_none [] = true
is_none (x ∷ xs) = false

-- a state that extracts nothing leads to the same states as before, but for those that extract
abbrev pub extracts_none : List StateNode → ℕ → Bool
extracts_none states s = is_none (extracts_at states s)

abbrev pub idle_next : List StateNode → StateNode → List ℕ
idle_next states state = if is_none state.extracts then filter (extracts_none states) state.next else []

abbrev pub idle_graph : List StateNode → List (List ℕ)
idle_graph states = map (idle_next states) states

-- the graph with further edges from its last node
abbrev pub with_edges : List (List ℕ) → List ℕ → List (List ℕ)
with_edges g targets = fold with_edge g targets
