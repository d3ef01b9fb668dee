-- The expressions and the nodes of statements that are made ready so far, and how they grow.
use Rattle.std.specs.Prelude.{◌≡◌, ℕ, ◌<◌, ◌≤◌, List, length}
use Rattle.node_lists.specs.Trees.{KeepsPlaces}
use Rattle.v1_core.specs.Ready.{Ready}
use Rattle.v1_core.specs.Nodes.{ready_at}
use Rattle.v1_core.specs.Kept as expressions
use Rattle.v1_ready_blocks.specs.declared.nodes.TestNode.{TestNode}
use Rattle.v1_ready_blocks.specs.declared.nodes.TestNode.TheVariants as test_node
use Rattle.v1_ready_blocks.specs.declared.nodes.Node.{Node}
use Rattle.v1_ready_blocks.specs.declared.nodes.Node.TheVariants as node
use Rattle.v1_ready_blocks.specs.Nodes.{Tree, no_tree, trees}
use Rattle.v1_ready_blocks.specs.Kept as statements
use Rattle.v1_ready_blocks.specs.Kept.{over}
use Rattle.v1_ready_program.specs.Seen.{Keeps}

pub record Held : Type 0 where
  pub expressions : expressions.Kept
  pub statements : statements.Kept

abbrev pub ready_in : Held → List Ready
ready_in h = expressions.trees h.expressions

abbrev pub trees_in : Held → List Tree
trees_in h = trees (ready_in h) h.statements.nodes

-- the first so many expressions are the same
abbrev pub AgreeBelow : ℕ → List Ready → List Ready → Type 0
AgreeBelow n es fs = (i : ℕ) → i < n → ready_at es i ≡ ready_at fs i

-- the nodes stand for the same over any expressions with the same ones in front
abbrev pub StaysOver : statements.Kept → Type 0
StaysOver k = (es fs : List Ready) → AgreeBelow k.ground.expressions es fs → trees es k.nodes ≡ trees fs k.nodes

pub record IsHeld (h : Held) : Type 0 where
  pub stays : StaysOver h.statements
  pub named : h.statements.ground.expressions ≤ length (ready_in h)

-- the expression that a node names is one of so many

abbrev pub IsTestOver : ℕ → TestNode → Type 0
IsTestOver n (test_node.Plain e) = e < n
IsTestOver n _ = Unit {0}

abbrev pub IsOver : ℕ → Node → Type 0
IsOver n (node.Test of) = IsTestOver n of
IsOver n _ = Unit {0}

-- what is there keeps its place and stays what it is
pub record Grows (old new : Held) : Type 0 where
  pub held : IsHeld new
  pub ready : Keeps (ready_in old) (ready_in new)
  pub trees : KeepsPlaces no_tree (trees_in old) (trees_in new)
  pub more : length (trees_in old) ≤ length (trees_in new)
  pub layout : new.expressions.layout ≡ old.expressions.layout
  pub ground : over 0 new.statements.ground ≡ over 0 old.statements.ground
