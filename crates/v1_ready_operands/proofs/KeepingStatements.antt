-- Statements stay what they are when more is held.
use Rattle.std.proofs.Common.{◌≡◌, ℕ, ◌<◌, ◌≤◌, Option, Some, None, length, refl, ap, arith}
use Rattle.std.specs.Prelude.{option_map}
use Rattle.node_lists.specs.Trees.{Adds}
use Rattle.node_lists.proofs.Growth as growth
use Rattle.v1_ready_blocks.specs.declared.nodes.StatementNode.{StatementNode}
use Rattle.v1_ready_blocks.specs.declared.nodes.Node.TheVariants as node
use Rattle.v1_ready_blocks.specs.Nodes.{Tree, no_tree, as_statement, statement_at, statement_of, tree_of}
use Rattle.v1_ready_blocks.specs.declared.places.Slice.{Slice}
use Rattle.v1_ready_blocks.specs.Places.{seen_slice}
use Rattle.v1_ready_statements.specs.Targets.{ready_slice}
use Rattle.v1_ready_nodes.specs.Held.{Held, ready_in, trees_in, Grows}
use Rattle.v1_ready_operands.specs.SeenStatements.{seen_statement, IsStatementIn}

pub statement_added : (h g : Held) (place : ℕ) (x : StatementNode) → Adds (trees_in h) (trees_in g) place (tree_of (ready_in h) (trees_in h) (node.Statement x)) → statement_at (trees_in g) place ≡ statement_of (trees_in h) x
statement_added h g place x adds = ap as_statement (growth.adds_tree (trees_in h) (trees_in g) place (tree_of (ready_in h) (trees_in h) (node.Statement x)) adds no_tree)

pub statement_within : (h g : Held) (place : ℕ) (t : Tree) → Adds (trees_in h) (trees_in g) place t → place < length (trees_in g)
statement_within h g place t adds = growth.adds_place (trees_in h) (trees_in g) place t adds

module _ (h g : Held) (grows : Grows h g) where
  pub statement_kept : (v : Option ℕ) → IsStatementIn h v → seen_statement g v ≡ seen_statement h v
  statement_kept None within = refl
  statement_kept (Some i) within = ap (λ t. Some (as_statement t)) (grows.trees i within)

  pub statement_wider : (v : Option ℕ) → IsStatementIn h v → IsStatementIn g v
  statement_wider None within = tt
  statement_wider (Some i) within = let more : length (trees_in h) ≤ length (trees_in g) = grows.more in omega arith

-- a slice that is seen is the same slice
pub sliced_again : (cut : Option Slice) → cut ≡ option_map ready_slice (option_map seen_slice cut)
sliced_again None = refl
sliced_again (Some s) = refl
