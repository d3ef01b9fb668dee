-- Which trees a list of nodes stands for, in any syntax. A node names its children by their places among the nodes
-- before it. `N` is a node and `T` a tree; a syntax says by `tree_of` what a node's tree is, given the trees before it,
-- and by `InOrder n node` that the children of the node are among the first `n`.
use Rattle.std.specs.Prelude.{◌≡◌, ℕ, suc, ◌<◌, List, [], ◌∷◌, ◌++◌, length, slice_index_or}

-- the tree at a place, or `none` where no tree stands there
abbrev pub tree_at : {T : Type 0} → T → List T → ℕ → T
tree_at none trees place = slice_index_or trees place none

-- trees, and behind them the trees of the nodes that follow
abbrev pub grow : {N T : Type 0} → (List T → N → T) → List T → List N → List T
grow tree_of trees [] = trees
grow tree_of trees (node ∷ nodes) = grow tree_of (trees ++ tree_of trees node ∷ []) nodes

-- each child stands before its parent, in nodes that stand behind `n` others
abbrev pub AllInOrder : {N : Type 0} → (ℕ → N → Type 0) → ℕ → List N → Type 0
AllInOrder InOrder n [] = Unit {0}
AllInOrder InOrder n (node ∷ nodes) = InOrder n node × AllInOrder InOrder (suc n) nodes

-- the earlier trees keep their places
abbrev pub KeepsPlaces : {T : Type 0} → T → List T → List T → Type 0
KeepsPlaces none old new = (i : ℕ) → i < length old → tree_at none new i ≡ tree_at none old i

-- one tree is added at the place: it stands behind the old ones, and nothing else is added
pub record Adds {T : Type 0} (old new : List T) (place : ℕ) (tree : T) : Type 0 where
  pub last : place ≡ length old
  pub trees : new ≡ old ++ tree ∷ []
