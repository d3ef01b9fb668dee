-- Strongly connected components, in a finishing order.
use Rattle.std.specs.Prelude.{◌≡◌, ℕ, ◌<◌, ◌≤◌, ◌↔◌, List, [], ◌∷◌, length, slice_index}
use Rattle.digraph.specs.Graphs.{Among, IsEdge, Reaches}

-- along the list the number of a node's component doesn't fall
abbrev pub Rises : List ℕ → List ℕ → Type 0
Rises numbers [] = Unit {0}
Rises numbers (a ∷ rest) = ((b : ℕ) → Among b rest → slice_index numbers a ≤ slice_index numbers b) × Rises numbers rest

-- no node stands twice
abbrev pub StandOnce : List ℕ → Type 0
StandOnce [] = Unit {0}
StandOnce (a ∷ rest) = (Among a rest → ⊥) × StandOnce rest

-- the number of each node's component, the nodes in order, and how many components there are
pub record Condensation : Type 0 where
  pub numbers : List ℕ
  pub order : List ℕ
  pub count : ℕ

-- these are the strongly connected components of the graph, in a finishing order: a component stands behind those that
-- it leads to
pub record AreComponents (g : List (List ℕ)) (c : Condensation) : Type 0 where
  pub each : length c.numbers ≡ length g
  -- two nodes have one number exactly where each reaches the other
  pub same : (a b : ℕ) → a < length g → b < length g
      → (slice_index c.numbers a ≡ slice_index c.numbers b) ↔ (Reaches g a b × Reaches g b a)
  -- no edge leads to a greater number
  pub falls : (a b : ℕ) → IsEdge g a b → slice_index c.numbers b ≤ slice_index c.numbers a
  -- the numbers are those below the count
  pub below : (a : ℕ) → a < length g → slice_index c.numbers a < c.count
  pub used : (n : ℕ) → n < c.count → (a : ℕ) × (a < length g) × (slice_index c.numbers a ≡ n)
  -- the order has each node of the graph once, by their numbers
  pub nodes : (a : ℕ) → Among a c.order ↔ (a < length g)
  pub once : StandOnce c.order
  pub rises : Rises c.numbers c.order
