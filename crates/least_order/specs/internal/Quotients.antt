-- The components of a graph as the nodes of another one.
use Rattle.std.specs.Prelude.{◌≡◌, ℕ, ◌<◌, ◌↔◌, List, Bool, true, false, length, Option, Some, slice_index, slice_index_or}
use Rattle.digraph.specs.Graphs.{Among, IsEdge, Walk}
use Rattle.digraph.specs.Components.{Condensation}
use Rattle.least_order.specs.internal.Listing.{mark_of}

-- an edge of g leads from component a to component b
abbrev pub Crosses : List (List ℕ) → List ℕ → ℕ → ℕ → Type 0
Crosses g numbers a b =
    (u : ℕ) × (v : ℕ) × IsEdge g u v × (slice_index numbers u ≡ a) × (slice_index numbers v ≡ b)

-- the edges of q are those of g between different components
pub record IsQuotient (g : List (List ℕ)) (c : Condensation) (q : List (List ℕ)) : Type 0 where
  pub each : length q ≡ c.count
  pub edges : (a b : ℕ) → IsEdge q a b ↔ ((a ≡ b → ⊥) × Crosses g c.numbers a b)

-- an edge between different components
abbrev pub IsBetween : ℕ → ℕ → ℕ → ℕ → Type 0
IsBetween from to a b = (a ≡ from) × (b ≡ to) × (a ≡ b → ⊥)

-- an edge from component a to component b, to which one of these nodes belongs
abbrev pub LeavesTo : List ℕ → ℕ → List ℕ → ℕ → ℕ → Type 0
LeavesTo numbers from targets a b =
    (a ≡ from) × (a ≡ b → ⊥) × ((v : ℕ) × Among v targets × (slice_index numbers v ≡ b))

abbrev pub IsListed : List Bool → ℕ → Type 0
IsListed listed x = slice_index_or listed x false ≡ true

-- x is ahead of y: they differ, and a walk leads from x to y
abbrev pub IsAhead : List (List ℕ) → ℕ → ℕ → Type 0
IsAhead g x y = (x ≡ y → ⊥) × Walk g x y

-- the mark of a component is the listed node in it
pub record AreMarks (c : Condensation) (listed : List Bool) (marks : List (Option ℕ)) : Type 0 where
  pub each : length marks ≡ c.count
  pub mark : (b x : ℕ) → mark_of marks b ≡ Some x → IsListed listed x × (slice_index c.numbers x ≡ b)
  pub known : (x : ℕ) → IsListed listed x → mark_of marks (slice_index c.numbers x) ≡ Some x

-- the same of the first n nodes
pub record AreMarksBelow (c : Condensation) (listed : List Bool) (n : ℕ) (marks : List (Option ℕ)) : Type 0 where
  pub each : length marks ≡ c.count
  pub mark : (b x : ℕ) → mark_of marks b ≡ Some x → IsListed listed x × (slice_index c.numbers x ≡ b) × (x < n)
  pub known : (x : ℕ) → x < n → IsListed listed x → mark_of marks (slice_index c.numbers x) ≡ Some x

-- two listed nodes are in one component
abbrev pub HasPair : Condensation → List Bool → Type 0
HasPair c listed =
    (x : ℕ) × (y : ℕ) × (x ≡ y → ⊥) × IsListed listed x × IsListed listed y
    × (slice_index c.numbers x ≡ slice_index c.numbers y)
