-- The actions of a program as a graph, while it is built.
use Rattle.std.specs.Prelude.{ℕ, List, [], ◌∷◌, filter_map}
use Rattle.digraph.specs.Graphs.{with_edge}
use Rattle.p414_syntax.specs.declared.syntax.Decl.{Decl}
use Rattle.p414_syntax.specs.Arguments.{Invocation}
use Rattle.p414_syntax.specs.ActionExpansion.{callee_number}

-- a graph with further edges from its last node
abbrev pub with_edges : List (List ℕ) → List ℕ → List (List ℕ)
with_edges g [] = g
with_edges g (target ∷ targets) = with_edges (with_edge g target) targets

-- the actions that calls lead to
abbrev pub called_by : List Decl → List Invocation → List ℕ
called_by ds calls = filter_map (callee_number ds) calls
