-- Arguments in front of others.
use Rattle.std.proofs.Common.{◌≡◌, ℕ, ◌<◌, ◌≤◌, Option, Some, None, List, [], ◌∷◌, ◌++◌, length, refl, sym, ap, ◌∙◌, arith}
use Rattle.std.proofs.lemmas.List.{append_assoc}
use Rattle.node_lists.specs.Trees.{Adds}
use Rattle.node_lists.proofs.Growth as growth
use Rattle.p416_syntax.specs.Tree.{Exp16, argument}
use Rattle.p416_syntax.specs.Uses as uses
use Rattle.v1_ready_blocks.specs.declared.nodes.ArgumentNode.{ArgumentNode}
use Rattle.v1_ready_blocks.specs.declared.nodes.Node.TheVariants as node
use Rattle.v1_ready_blocks.specs.Nodes.{Tree, no_tree, as_arguments, arguments_at, arguments_of, tree_of}
use Rattle.v1_ready_nodes.specs.Held.{Held, ready_in, trees_in, Grows}
use Rattle.v1_ready_statements.specs.Given.{join_option}
use Rattle.v1_ready_tests.specs.Seen.{seen_arguments, AreArgumentsIn}

pub arguments_added : (h g : Held) (place : ℕ) (x : ArgumentNode) → Adds (trees_in h) (trees_in g) place (tree_of (ready_in h) (trees_in h) (node.Argument x)) → arguments_at (trees_in g) place ≡ arguments_of (trees_in h) x
arguments_added h g place x adds = ap as_arguments (growth.adds_tree (trees_in h) (trees_in g) place (tree_of (ready_in h) (trees_in h) (node.Argument x)) adds no_tree)

pub arguments_within : (h g : Held) (place : ℕ) (t : Tree) → Adds (trees_in h) (trees_in g) place t → place < length (trees_in g)
arguments_within h g place t adds = growth.adds_place (trees_in h) (trees_in g) place t adds

module _ (h g : Held) (grows : Grows h g) where
  pub arguments_kept : (v : Option ℕ) → AreArgumentsIn h v → seen_arguments g v ≡ seen_arguments h v
  arguments_kept None within = refl
  arguments_kept (Some i) within = ap (λ t. Some (as_arguments t)) (grows.trees i within)

  pub arguments_wider : (v : Option ℕ) → AreArgumentsIn h v → AreArgumentsIn g v
  arguments_wider None within = tt
  arguments_wider (Some i) within = let more : length (trees_in h) ≤ length (trees_in g) = grows.more in omega arith

-- views of arguments

pub views_turn : (before last : Exp16) (views all : List Exp16) → uses.arguments_of (argument before last) ++ views ≡ all → uses.arguments_of before ++ last ∷ views ≡ all
views_turn before last views all is = sym (append_assoc (uses.arguments_of before) (last ∷ []) views) ∙ is

-- joining

pub join_further : {A : Type 0} (x y z : Option (List A)) → join_option (join_option x y) z ≡ join_option x (join_option y z)
join_further None y z = refl
join_further (Some xs) None z = refl
join_further (Some xs) (Some ys) None = refl
join_further (Some xs) (Some ys) (Some zs) = ap Some (append_assoc xs ys zs)

pub join_none : {A : Type 0} (z : Option (List A)) → z ≡ join_option (Some []) z
join_none None = refl
join_none (Some zs) = refl
