-- What was made stays what it is when more is held.
use Rattle.std.proofs.Common.{◌≡◌, ℕ, ◌<◌, ◌≤◌, Option, Some, None, List, [], ◌∷◌, length, refl, ap, ◌∙◌, arith}
use Rattle.node_lists.specs.Trees.{Adds}
use Rattle.node_lists.proofs.Growth as growth
use Rattle.v1_ready_blocks.specs.declared.nodes.TestNode.{TestNode}
use Rattle.v1_ready_blocks.specs.declared.nodes.Node.TheVariants as node
use Rattle.v1_ready_blocks.specs.Nodes.{Tree, no_tree, as_test, test_at, test_of, tree_of}
use Rattle.v1_ready_program.specs.internal.Coded.{seen_value, IsValueIn}
use Rattle.v1_ready_nodes.specs.Held.{Held, ready_in, trees_in, Grows}
use Rattle.v1_ready_tests.specs.declared.made.Made.{Made as CodeMade}
use Rattle.v1_ready_tests.specs.declared.made.Made.TheVariants as made
use Rattle.v1_ready_tests.specs.internal.Passes.{tested, plainly}
use Rattle.v1_ready_tests.specs.internal.Coded.{seen_test, seen_made, seen_all, IsTestIn, IsMadeIn, AreMadeIn}

pub test_added : (h g : Held) (place : ℕ) (t : TestNode) → Adds (trees_in h) (trees_in g) place (tree_of (ready_in h) (trees_in h) (node.Test t)) → test_at (trees_in g) place ≡ test_of (ready_in h) (trees_in h) t
test_added h g place t adds = ap as_test (growth.adds_tree (trees_in h) (trees_in g) place (tree_of (ready_in h) (trees_in h) (node.Test t)) adds no_tree)

pub test_within : (h g : Held) (place : ℕ) (t : Tree) → Adds (trees_in h) (trees_in g) place t → place < length (trees_in g)
test_within h g place t adds = growth.adds_place (trees_in h) (trees_in g) place t adds

module _ (h g : Held) (grows : Grows h g) where
  value_kept : (v : Option ℕ) → IsValueIn (length (ready_in h)) v → seen_value (ready_in g) v ≡ seen_value (ready_in h) v
  value_kept None within = refl
  value_kept (Some i) within = ap Some (grows.ready.places i within)

  value_wider : (v : Option ℕ) → IsValueIn (length (ready_in h)) v → IsValueIn (length (ready_in g)) v
  value_wider None within = tt
  value_wider (Some i) within = let more : length (ready_in h) ≤ length (ready_in g) = grows.ready.grows in omega arith

  pub test_kept : (v : Option ℕ) → IsTestIn h v → seen_test g v ≡ seen_test h v
  test_kept None within = refl
  test_kept (Some i) within = ap (λ t. Some (as_test t)) (grows.trees i within)

  pub test_wider : (v : Option ℕ) → IsTestIn h v → IsTestIn g v
  test_wider None within = tt
  test_wider (Some i) within = let more : length (trees_in h) ≤ length (trees_in g) = grows.more in omega arith

  pub made_kept : (v : CodeMade) → IsMadeIn h v → seen_made g v ≡ seen_made h v
  made_kept (made.Plain place) within = ap plainly (value_kept place within)
  made_kept (made.Tested own place) within = ap (tested own) (test_kept place within)

  pub made_wider : (v : CodeMade) → IsMadeIn h v → IsMadeIn g v
  made_wider (made.Plain place) within = value_wider place within
  made_wider (made.Tested own place) within = test_wider place within

  pub all_kept : (vs : List CodeMade) → AreMadeIn h vs → seen_all g vs ≡ seen_all h vs
  all_kept [] within = refl
  all_kept (v ∷ vs) within = ap (λ x. x ∷ seen_all g vs) (made_kept v within.0) ∙ ap (λ xs. seen_made h v ∷ xs) (all_kept vs within.1)

  pub all_wider : (vs : List CodeMade) → AreMadeIn h vs → AreMadeIn g vs
  all_wider [] within = tt
  all_wider (v ∷ vs) within = (made_wider v within.0, all_wider vs within.1)
