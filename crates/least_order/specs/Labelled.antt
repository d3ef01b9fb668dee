-- A graph each of whose nodes has a list of labels, and what stands before what along its walks.
use Rattle.std.specs.Prelude.{◌≡◌, ℕ, ◌⊎◌, List, [], slice_index_or}
use Rattle.digraph.specs.Graphs.{Among, Walk, Reaches}
use Rattle.least_order.specs.Orders.{Precedes}

-- the labels of a node, in order
abbrev pub labels_of : List (List ℕ) → ℕ → List ℕ
labels_of labels a = slice_index_or labels a []

-- a node that the start reaches has the label
abbrev pub IsFound : List (List ℕ) → List (List ℕ) → ℕ → ℕ → Type 0
IsFound g labels start x = (a : ℕ) × Reaches g start a × Among x (labels_of labels a)

-- a node that the start reaches has label x and behind it y, or it has x, and a node to which a walk leads from it has y
abbrev pub ComesBefore : List (List ℕ) → List (List ℕ) → ℕ → ℕ → ℕ → Type 0
ComesBefore g labels start x y =
    (a : ℕ) × Reaches g start a
    × (Precedes x y (labels_of labels a)
    ⊎ ((b : ℕ) × Walk g a b × Among x (labels_of labels a) × Among y (labels_of labels b)))

-- label x is before label y: they differ, and a walk from the start has x and later y
abbrev pub IsBefore : List (List ℕ) → List (List ℕ) → ℕ → ℕ → ℕ → Type 0
IsBefore g labels start x y = (x ≡ y → ⊥) × ComesBefore g labels start x y
