-- What a search for the nodes that one reaches knows.
use Rattle.std.specs.Prelude.{◌≡◌, ℕ, ◌+◌, ◌⊎◌, Bool, true, false, List, ◌∷◌, length, slice_index_or, slice_set, fold, sum_by, if◌then◌else◌}
use Rattle.digraph.specs.Graphs.{Among, IsEdge, Reaches}

-- whether each node was reached, and the nodes whose edges are still to be taken
pub record Reach : Type 0 where
  pub reached : List Bool
  pub left : List ℕ

-- the node was reached
abbrev pub WasReached : Reach → ℕ → Type 0
WasReached r a = slice_index_or r.reached a false ≡ true

-- a node is reached, for the first time or again
abbrev pub reach_node : Reach → ℕ → Reach
reach_node r a =
    if slice_index_or r.reached a false then r else record { reached = slice_set r.reached a true; left = a ∷ r.left }

abbrev pub reach_all : Reach → List ℕ → Reach
reach_all r nodes = fold reach_node r nodes

-- what is true between any two steps, but for these edges of node a
pub record Spreading (g : List (List ℕ)) (from a : ℕ) (targets : List ℕ) (r : Reach) : Type 0 where
  pub each : length r.reached ≡ length g
  pub start : WasReached r from
  pub sound : (x : ℕ) → WasReached r x → Reaches g from x
  pub taken : (x b : ℕ) → WasReached r x → IsEdge g x b
      → WasReached r b ⊎ (Among x r.left ⊎ ((x ≡ a) × Among b targets))
  pub put : (x : ℕ) → Among x r.left → WasReached r x

abbrev pub unreached : Bool → ℕ
unreached b = if b then 0 else 1

-- how much work is left
abbrev pub reach_work : Reach → ℕ
reach_work r = sum_by unreached r.reached + length r.left
