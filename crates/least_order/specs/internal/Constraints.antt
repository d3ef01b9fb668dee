-- A graph of labels and nodes, whose walks tell which label comes before which.
use Rattle.std.specs.Prelude.{◌≡◌, ℕ, ◌+◌, ◌<◌, ◌⊎◌, ◌↔◌, List, [], ◌∷◌, replicate, Bool, length}
use Rattle.digraph.specs.Graphs.{Among, IsEdge, Reaches}
use Rattle.least_order.specs.Labelled.{labels_of, IsFound}
use Rattle.least_order.specs.internal.Additions.{AddsEdges}
use Rattle.least_order.specs.internal.Quotients.{IsListed}

-- v is the first of the labels behind node u, or the next label behind u
abbrev pub Follows : ℕ → List ℕ → ℕ → ℕ → Type 0
Follows node [] u v = ⊥
Follows node (x ∷ xs) u v = ((u ≡ node) × (v ≡ x)) ⊎ Follows x xs u v

-- the last of the labels, or the node if there is none
abbrev pub last_of : ℕ → List ℕ → ℕ
last_of node [] = node
last_of node (x ∷ xs) = last_of x xs

-- an edge to one of these nodes, which stand behind so many labels
abbrev pub LeadsOn : ℕ → ℕ → List ℕ → ℕ → ℕ → Type 0
LeadsOn last count targets u v = (b : ℕ) × Among b targets × (u ≡ last) × (v ≡ count + b)

-- an edge that node a makes
abbrev pub MakesEdge : List (List ℕ) → List (List ℕ) → ℕ → ℕ → ℕ → ℕ → Type 0
MakesEdge g labels count a u v =
    Follows (count + a) (labels_of labels a) u v
    ⊎ ((b : ℕ) × IsEdge g a b × (u ≡ last_of (count + a) (labels_of labels a)) × (v ≡ count + b))

-- the first nodes are the labels, and behind them are the nodes of g; its edges are those that the reached nodes make
pub record AreConstraints (g labels : List (List ℕ)) (count start : ℕ) (listed : List Bool) (whole : List (List ℕ)) : Type 0 where
  pub each : length whole ≡ count + length g
  pub edges : (u v : ℕ) → IsEdge whole u v ↔ ((a : ℕ) × Reaches g start a × MakesEdge g labels count a u v)
  pub found : (x : ℕ) → IsListed listed x ↔ IsFound g labels start x

-- the same with labels below some count
pub record IsConstrained (g labels : List (List ℕ)) (start : ℕ) (listed : List Bool) (whole : List (List ℕ)) : Type 0 where
  pub count : ℕ
  pub below : (a x : ℕ) → Among x (labels_of labels a) → x < count
  pub are : AreConstraints g labels count start listed whole
  pub found_each : length listed ≡ length whole

-- labels are found, and edges made, in this order behind a node
pub record AddsLabels (node : ℕ) (labels : List ℕ) (found : List Bool) (old : List (List ℕ)) (listed : List Bool) (new : List (List ℕ)) : Type 0 where
  pub each : length new ≡ length old
  pub found_each : length listed ≡ length found
  pub edges : AddsEdges old new (Follows node labels)
  pub labels_are : (x : ℕ) → IsListed listed x ↔ (IsListed found x ⊎ Among x labels)

-- an edge that one of the first n nodes makes, which is reached
abbrev pub IsMadeBelow : List (List ℕ) → List (List ℕ) → ℕ → List Bool → ℕ → ℕ → ℕ → Type 0
IsMadeBelow g labels count reached n u v =
    (a : ℕ) × (a < n) × IsListed reached a × MakesEdge g labels count a u v

-- what the reached ones of the first n nodes make
pub record AreConstraintsBelow (g labels : List (List ℕ)) (count : ℕ) (reached : List Bool) (n : ℕ) (listed : List Bool) (whole : List (List ℕ)) : Type 0 where
  pub each : length whole ≡ count + length g
  pub found_each : length listed ≡ count + length g
  pub edges : AddsEdges (replicate (count + length g) []) whole (IsMadeBelow g labels count reached n)
  pub found : (x : ℕ) → IsListed listed x ↔ ((a : ℕ) × (a < n) × IsListed reached a × Among x (labels_of labels a))
