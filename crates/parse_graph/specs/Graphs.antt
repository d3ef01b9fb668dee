-- The parser states of a program as a graph (P4_14 1.0.5, "Parser Specification"; that an idle cycle is refused is this
-- project's own).
use Rattle.std.specs.Prelude.{◌≡◌, ℕ, ◌<◌, ◌≤◌, List, [], ◌∷◌, length, flat_map, slice_get, Contains}
use Rattle.std.specs.Option.{option_map_or}
use Rattle.p414_syntax.specs.Walks.{IsCycle}
use Rattle.parse_graph.specs.declared.nodes.StateNode.{StateNode}

-- what a state extracts, and which states its return names
abbrev pub extracts_in : StateNode → List ℕ
extracts_in state = state.extracts

abbrev pub next_in : StateNode → List ℕ
next_in state = state.next

-- the same of the state with this number
abbrev pub extracts_at : List StateNode → ℕ → List ℕ
extracts_at states s = option_map_or extracts_in (slice_get states s) []

abbrev pub next_at : List StateNode → ℕ → List ℕ
next_at states s = option_map_or next_in (slice_get states s) []

-- each return names states of the graph
pub record IsWhole (states : List StateNode) : Type 0 where
  pub within : (s t : ℕ) → Contains (next_at states s) t → t < length states

-- a cycle leads from the state back to it, by states that extract nothing
pub record IsIdle (states : List StateNode) (s : ℕ) : Type 0 where
  pub between : List ℕ
  pub cycle : IsCycle (next_at states) s between
  pub idle : flat_map (extracts_at states) (s ∷ between) ≡ []

-- the state is on such a cycle, and no lesser one is
pub record IsLeastIdle (states : List StateNode) (s : ℕ) : Type 0 where
  pub is : IsIdle states s
  pub least : (t : ℕ) → IsIdle states t → s ≤ t
