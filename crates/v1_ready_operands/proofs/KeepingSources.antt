-- What was found and joined stays what it is when more is held.
use Rattle.std.proofs.Common.{◌≡◌, ℕ, ◌<◌, ◌≤◌, Option, Some, None, List, [], ◌∷◌, ◌++◌, length, refl, ap, ◌∙◌, arith}
use Rattle.node_lists.specs.Trees.{Adds}
use Rattle.node_lists.proofs.Growth as growth
use Rattle.v1_ready_blocks.specs.declared.nodes.SourceNode.{SourceNode}
use Rattle.v1_ready_blocks.specs.declared.nodes.Node.TheVariants as node
use Rattle.v1_ready_blocks.specs.Nodes.{Tree, no_tree, as_source, source_at, source_of, tree_of}
use Rattle.v1_ready_nodes.specs.Held.{Held, ready_in, trees_in, Grows}
use Rattle.v1_ready_tests.proofs.Keeping as tests
use Rattle.v1_ready_operands.specs.declared.found.Found.{Found as CodeFound}
use Rattle.v1_ready_operands.specs.declared.found.Found.TheVariants as found_of
use Rattle.v1_ready_operands.specs.internal.SourcePasses.{choice_found}
use Rattle.v1_ready_operands.specs.internal.Coded.{seen_found, seen_founds, IsFoundIn, AreFoundIn, seen_source, seen_sources, IsSourceIn, AreSourcesIn}

pub source_added : (h g : Held) (place : ℕ) (x : SourceNode) → Adds (trees_in h) (trees_in g) place (tree_of (ready_in h) (trees_in h) (node.Source x)) → source_at (trees_in g) place ≡ source_of (trees_in h) x
source_added h g place x adds = ap as_source (growth.adds_tree (trees_in h) (trees_in g) place (tree_of (ready_in h) (trees_in h) (node.Source x)) adds no_tree)

pub source_within : (h g : Held) (place : ℕ) (t : Tree) → Adds (trees_in h) (trees_in g) place t → place < length (trees_in g)
source_within h g place t adds = growth.adds_place (trees_in h) (trees_in g) place t adds

module _ (h g : Held) (grows : Grows h g) where
  pub found_kept : (f : CodeFound) → IsFoundIn h f → seen_found g f ≡ seen_found h f
  found_kept (found_of.Parts range) within = refl
  found_kept (found_of.Chosen test) within = ap choice_found (tests.test_kept h g grows test within)

  pub found_wider : (f : CodeFound) → IsFoundIn h f → IsFoundIn g f
  found_wider (found_of.Parts range) within = tt
  found_wider (found_of.Chosen test) within = tests.test_wider h g grows test within

  pub founds_kept : (fs : List CodeFound) → AreFoundIn h fs → seen_founds g fs ≡ seen_founds h fs
  founds_kept [] within = refl
  founds_kept (f ∷ fs) within = ap (λ x. x ∷ seen_founds g fs) (found_kept f within.0) ∙ ap (λ xs. seen_found h f ∷ xs) (founds_kept fs within.1)

  pub founds_wider : (fs : List CodeFound) → AreFoundIn h fs → AreFoundIn g fs
  founds_wider [] within = tt
  founds_wider (f ∷ fs) within = (found_wider f within.0, founds_wider fs within.1)

  pub source_kept : (v : Option ℕ) → IsSourceIn h v → seen_source g v ≡ seen_source h v
  source_kept None within = refl
  source_kept (Some i) within = ap (λ t. Some (as_source t)) (grows.trees i within)

  pub source_wider : (v : Option ℕ) → IsSourceIn h v → IsSourceIn g v
  source_wider None within = tt
  source_wider (Some i) within = let more : length (trees_in h) ≤ length (trees_in g) = grows.more in omega arith

  pub sources_kept : (vs : List (Option ℕ)) → AreSourcesIn h vs → seen_sources g vs ≡ seen_sources h vs
  sources_kept [] within = refl
  sources_kept (v ∷ vs) within = ap (λ x. x ∷ seen_sources g vs) (source_kept v within.0) ∙ ap (λ xs. seen_source h v ∷ xs) (sources_kept vs within.1)

  pub sources_wider : (vs : List (Option ℕ)) → AreSourcesIn h vs → AreSourcesIn g vs
  sources_wider [] within = tt
  sources_wider (v ∷ vs) within = (source_wider v within.0, sources_wider vs within.1)

-- lists of what was found

pub found_behind : (h : Held) (fs gs : List CodeFound) → AreFoundIn h fs → AreFoundIn h gs → AreFoundIn h (fs ++ gs)
found_behind h [] gs first second = second
found_behind h (f ∷ fs) gs first second = (first.0, found_behind h fs gs first.1 second)
