-- Which node stands at a place.
use Rattle.std.proofs.Common.{◌≡◌, ℕ, ◌<◌, List, length, ap, subst, ◌∙◌}
use Rattle.v1_core.specs.Layouts.{Layout}
use Rattle.v1_core.specs.Ready.{Ready}
use Rattle.v1_ready_blocks.specs.declared.nodes.TestNode.{TestNode}
use Rattle.v1_ready_blocks.specs.declared.nodes.SourceNode.{SourceNode}
use Rattle.v1_ready_blocks.specs.declared.nodes.ArgumentNode.{ArgumentNode}
use Rattle.v1_ready_blocks.specs.declared.nodes.IncomingNode.{IncomingNode}
use Rattle.v1_ready_blocks.specs.declared.nodes.OutgoingNode.{OutgoingNode}
use Rattle.v1_ready_blocks.specs.declared.nodes.Node.{Node}
use Rattle.v1_ready_blocks.specs.declared.nodes.Node.TheVariants as node
use Rattle.v1_ready_blocks.specs.Tests.{plain}
use Rattle.v1_ready_blocks.specs.Nodes.{Tree, Ground, IsNode, IsTest, IsSource, IsArgument, IsIncoming, IsOutgoing, at, tree_of, as_test, test_at, test_of, as_source, source_at, source_of, as_arguments, arguments_at, arguments_of, as_incoming, incoming_at, incoming_of, as_outgoing, outgoing_at, outgoing_of}
use Rattle.v1_statement_run.specs.declared.code.Code.{Code}
use Rattle.v1_statement_run.specs.Steps.{IsCode, ground_of}

pub is_test : (es : List Ready) (ts : List Tree) (place : ℕ) (n : Node) (of : TestNode) → at ts place ≡ tree_of es ts n → n ≡ node.Test of → test_at ts place ≡ test_of es ts of
is_test es ts place n of tree is = ap as_test (tree ∙ ap (tree_of es ts) is)

pub fits_test : (g : Ground) (place : ℕ) (n : Node) (of : TestNode) → IsNode g place n → n ≡ node.Test of → IsTest g.expressions place of
fits_test g place n of fits is = subst (IsNode g place) is fits

pub is_source : (es : List Ready) (ts : List Tree) (place : ℕ) (n : Node) (of : SourceNode) → at ts place ≡ tree_of es ts n → n ≡ node.Source of → source_at ts place ≡ source_of ts of
is_source es ts place n of tree is = ap as_source (tree ∙ ap (tree_of es ts) is)

pub fits_source : (g : Ground) (place : ℕ) (n : Node) (of : SourceNode) → IsNode g place n → n ≡ node.Source of → IsSource g.layout place of
fits_source g place n of fits is = subst (IsNode g place) is fits

pub is_argument : (es : List Ready) (ts : List Tree) (place : ℕ) (n : Node) (of : ArgumentNode) → at ts place ≡ tree_of es ts n → n ≡ node.Argument of → arguments_at ts place ≡ arguments_of ts of
is_argument es ts place n of tree is = ap as_arguments (tree ∙ ap (tree_of es ts) is)

pub fits_argument : (g : Ground) (place : ℕ) (n : Node) (of : ArgumentNode) → IsNode g place n → n ≡ node.Argument of → IsArgument place of
fits_argument g place n of fits is = subst (IsNode g place) is fits

pub is_incoming : (es : List Ready) (ts : List Tree) (place : ℕ) (n : Node) (of : IncomingNode) → at ts place ≡ tree_of es ts n → n ≡ node.Incoming of → incoming_at ts place ≡ incoming_of ts of
is_incoming es ts place n of tree is = ap as_incoming (tree ∙ ap (tree_of es ts) is)

pub fits_incoming : (g : Ground) (place : ℕ) (n : Node) (of : IncomingNode) → IsNode g place n → n ≡ node.Incoming of → IsIncoming g.layout place of
fits_incoming g place n of fits is = subst (IsNode g place) is fits

pub is_outgoing : (es : List Ready) (ts : List Tree) (place : ℕ) (n : Node) (of : OutgoingNode) → at ts place ≡ tree_of es ts n → n ≡ node.Outgoing of → outgoing_at ts place ≡ outgoing_of ts of
is_outgoing es ts place n of tree is = ap as_outgoing (tree ∙ ap (tree_of es ts) is)

pub fits_outgoing : (g : Ground) (place : ℕ) (n : Node) (of : OutgoingNode) → IsNode g place n → n ≡ node.Outgoing of → IsOutgoing g.layout place of
fits_outgoing g place n of fits is = subst (IsNode g place) is fits

-- an expression that is a slot

pub is_slot : (ts : List Tree) (place : ℕ) (e f : Ready) → test_at ts place ≡ plain e → e ≡ f → test_at ts place ≡ plain f
is_slot ts place e f tree is = tree ∙ ap plain is

pub slot_there : (c : Code) (slot : ℕ) → IsCode c → slot < length c.expressions.layout.widths → slot < length (ground_of c).layout.widths
slot_there c slot code there = subst (λ (l : Layout). slot < length l.widths) code.layout there
