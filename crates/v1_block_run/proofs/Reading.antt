-- Which statement stands at a place, and what it is made of is there.
use Rattle.std.proofs.Common.{◌≡◌, ℕ, ◌<◌, List, ap, subst, ◌∙◌, arith}
use Rattle.state_store.specs.declared.shapes.Shape.{Shape}
use Rattle.v1_core.specs.Layouts.{Layout}
use Rattle.v1_core.specs.Ready.{Ready}
use Rattle.v1_ready_blocks.specs.declared.nodes.StatementNode.{StatementNode}
use Rattle.v1_ready_blocks.specs.declared.nodes.StatementNode.TheVariants as statement_node
use Rattle.v1_ready_blocks.specs.declared.nodes.Node.{Node}
use Rattle.v1_ready_blocks.specs.declared.nodes.Node.TheVariants as node
use Rattle.v1_ready_blocks.specs.Nodes.{Tree, Ground, IsNode, IsStatement, at, tree_of, as_statement, statement_at, statement_of}
use Rattle.v1_ready_blocks.specs.Statements.{nothing, sequence}

pub is_statement : (es : List Ready) (ts : List Tree) (place : ℕ) (n : Node) (of : StatementNode) → at ts place ≡ tree_of es ts n → n ≡ node.Statement of → statement_at ts place ≡ statement_of ts of
is_statement es ts place n of tree is = ap as_statement (tree ∙ ap (tree_of es ts) is)

pub is_nothing : (es : List Ready) (ts : List Tree) (place : ℕ) (n : Node) → at ts place ≡ tree_of es ts n → n ≡ node.Statement statement_node.Nothing → statement_at ts place ≡ nothing
is_nothing es ts place n tree is = is_statement es ts place n statement_node.Nothing tree is

pub is_sequence : (es : List Ready) (ts : List Tree) (place : ℕ) (n : Node) (a b : ℕ) → at ts place ≡ tree_of es ts n → n ≡ node.Statement (statement_node.Sequence a b) → statement_at ts place ≡ sequence (statement_at ts a) (statement_at ts b)
is_sequence es ts place n a b tree is = is_statement es ts place n (statement_node.Sequence a b) tree is

pub fits_sequence : (g : Ground) (place : ℕ) (n : Node) (a b : ℕ) → IsNode g place n → n ≡ node.Statement (statement_node.Sequence a b) → (a < place) × (b < place)
fits_sequence g place n a b fits is = subst (IsNode g place) is fits

-- what stands before a place stands before those behind it
module _ (l : Layout) (shapes : List Shape) (place count : ℕ) (lt : place < count) where
  below : (a : ℕ) → a < place → a < count
  below a h = omega (arith, h, lt)

  further : (of : StatementNode) → IsStatement l shapes place of → IsStatement l shapes count of
  further statement_node.Nothing h = tt
  further (statement_node.Sequence a b) h = (below a h.0, below b h.1)
  further (statement_node.Start r) h = h
  further (statement_node.Assign to slice a) h = (h.0, h.1, below a h.2)
  further (statement_node.AssignParts to a) h = (h.0, below a h.1)
  further (statement_node.SetValid header on) h = h
  further (statement_node.PushFront stack n) h = h
  further (statement_node.PopFront stack n) h = h
  further (statement_node.Extract header) h = h
  further (statement_node.Emit a) h = below a h
  further (statement_node.Execute what a) h = (h.0, below a h.1)
  further (statement_node.Apply table) h = tt
  further (statement_node.LetGo a) h = below a h
  further (statement_node.Call action apart a b) h = (below a h.0, below b h.1)
  further (statement_node.Branch c a b) h = (below c h.0, below a h.1, below b h.2)
  further (statement_node.Switch table a) h = below a h
  further (statement_node.Labelled action a b) h = (below a h.0, below b h.1)
  further (statement_node.Otherwise a) h = below a h

pub fits_statement : (g : Ground) (place count : ℕ) (n : Node) (of : StatementNode) → place < count → IsNode g place n → n ≡ node.Statement of → IsStatement g.layout g.shapes count of
fits_statement g place count n of lt fits is = further g.layout g.shapes place count lt of (subst (IsNode g place) is fits)
