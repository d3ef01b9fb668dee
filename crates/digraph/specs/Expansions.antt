-- What calls expand to: a node stands for a body, and its edges, in order, for the calls in it.
use Rattle.std.specs.Prelude.{◌≡◌, ℕ, ◌<◌, List, [], ◌∷◌, ◌++◌, length, min, slice_index, sum_by}
use Rattle.digraph.specs.Graphs.{successors, OnCycle}

-- calls of these nodes, one after another, expand to these nodes: each call to its node, and behind it what that node's
-- own calls expand to
pub data Expands (g : List (List ℕ)) : List ℕ → List ℕ → Type 0 where
  Nothing : Expands g [] []
  Call : (a : ℕ) (rest nodes more : List ℕ) → Expands g (successors g a) nodes → Expands g rest more
      → Expands g (a ∷ rest) (a ∷ (nodes ++ more))

-- some node lies on a cycle
abbrev pub HasCycle : List (List ℕ) → Type 0
HasCycle g = (a : ℕ) × OnCycle g a

-- how much the nodes do themselves, together
abbrev pub size_of : List ℕ → List ℕ → ℕ
size_of own nodes = sum_by (slice_index own) nodes

-- no node lies on a cycle, each node's calls expand, and these are the sizes of the expanded nodes, each but at most the
-- limit
pub record AreSizes (g : List (List ℕ)) (own : List ℕ) (limit : ℕ) (sizes : List ℕ) : Type 0 where
  pub acyclic : (a : ℕ) → OnCycle g a → ⊥
  pub each : length sizes ≡ length g
  pub expands : (a : ℕ) → a < length g → (nodes : List ℕ) × Expands g (successors g a) nodes
  pub size : (a : ℕ) (nodes : List ℕ) → a < length g → Expands g (successors g a) nodes
      → slice_index sizes a ≡ min limit (size_of own (a ∷ nodes))
