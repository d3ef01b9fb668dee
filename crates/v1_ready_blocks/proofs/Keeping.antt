-- What `node_lists` proves of any list of nodes, for those of ready statements; and that further expressions change no tree.
use Rattle.std.proofs.Common.{◌≡◌, ℕ, ◌+◌, ◌<◌, ◌≤◌, List, [], ◌∷◌, ◌++◌, length, get_or, refl, ap, subst, ◌∙◌, arith}
use Rattle.node_lists.specs.Trees.{Adds}
use Rattle.node_lists.proofs.Growth as growth
use Rattle.v1_core.specs.Ready.{Ready}
use Rattle.v1_core.specs.Nodes.{ready_at}
use Rattle.v1_ready_blocks.specs.declared.nodes.TestNode.{TestNode}
use Rattle.v1_ready_blocks.specs.declared.nodes.TestNode.TheVariants as test_node
use Rattle.v1_ready_blocks.specs.declared.nodes.SourceNode.{SourceNode}
use Rattle.v1_ready_blocks.specs.declared.nodes.SourceNode.TheVariants as source_node
use Rattle.v1_ready_blocks.specs.declared.nodes.ArgumentNode.{ArgumentNode}
use Rattle.v1_ready_blocks.specs.declared.nodes.ArgumentNode.TheVariants as argument_node
use Rattle.v1_ready_blocks.specs.declared.nodes.IncomingNode.{IncomingNode}
use Rattle.v1_ready_blocks.specs.declared.nodes.IncomingNode.TheVariants as incoming_node
use Rattle.v1_ready_blocks.specs.declared.nodes.OutgoingNode.{OutgoingNode}
use Rattle.v1_ready_blocks.specs.declared.nodes.OutgoingNode.TheVariants as outgoing_node
use Rattle.v1_ready_blocks.specs.declared.nodes.StatementNode.{StatementNode}
use Rattle.v1_ready_blocks.specs.declared.nodes.StatementNode.TheVariants as statement_node
use Rattle.v1_ready_blocks.specs.declared.nodes.Node.{Node}
use Rattle.v1_ready_blocks.specs.declared.nodes.Node.TheVariants as node
use Rattle.v1_ready_blocks.specs.Tests.{plain, alone, both, either, pair, choice, chosen}
use Rattle.v1_ready_blocks.specs.Arguments.{a_value, an_item, value_in, parts_in, zero_in, value_out, parts_out}
use Rattle.v1_ready_blocks.specs.Statements.{assign, assign_parts, emit_headers, execute, let_go, sequence, does, call, branch, switch, labelled, otherwise}
use Rattle.v1_ready_blocks.specs.Nodes.{Tree, a_test, a_source, some_arguments, some_incoming, some_outgoing, a_statement, no_tree, at, as_test, as_source, as_arguments, as_incoming, as_outgoing, as_statement, test_of, source_of, arguments_of, incoming_of, outgoing_of, statement_of, tree_of, trees, Ground, IsTest, IsSource, IsArgument, IsIncoming, IsOutgoing, IsStatement, IsNode, AreNodes}
use Rattle.v1_ready_blocks.specs.Kept.{needed, needed_by, over}

-- of two trees, and of three
two : {X : Type 0} (f : Tree → Tree → X) (x x' y y' : Tree) → x ≡ x' → y ≡ y' → f x y ≡ f x' y'
two f x x' y y' p q = ap (λ t. f t y) p ∙ ap (λ t. f x' t) q

three : {X : Type 0} (f : Tree → Tree → Tree → X) (x x' y y' z z' : Tree) → x ≡ x' → y ≡ y' → z ≡ z' → f x y z ≡ f x' y' z'
three f x x' y y' z z' p q r = two (λ s t. f s t z) x x' y y' p q ∙ ap (λ t. f x' y' t) r

-- the tree of a node depends on no trees but those of which it is made

module _ (k : ℕ) (ts us : List Tree) (h : (i : ℕ) → i < k → at ts i ≡ at us i) where
  same_test : (es : List Ready) (count : ℕ) (n : TestNode) → IsTest count k n → test_of es ts n ≡ test_of es us n
  same_test es count (test_node.Plain e) o = refl
  same_test es count (test_node.Hits table) o = refl
  same_test es count (test_node.Misses table) o = refl
  same_test es count (test_node.Alone of a) o = ap (λ t. alone of (as_test t)) (h a o.1)
  same_test es count (test_node.Both a b) o = two (λ s t. both (as_test s) (as_test t)) _ _ _ _ (h a o.0) (h b o.1)
  same_test es count (test_node.Either a b) o = two (λ s t. either (as_test s) (as_test t)) _ _ _ _ (h a o.0) (h b o.1)
  same_test es count (test_node.Pair of a b) o = two (λ s t. pair of (as_test s) (as_test t)) _ _ _ _ (h a o.0) (h b o.1)
  same_test es count (test_node.Choice c a b) o =
      three (λ r s t. choice (as_test r) (as_test s) (as_test t)) _ _ _ _ _ _ (h c o.0) (h a o.1) (h b o.2)

  same_source : (g : Ground) (n : SourceNode) → IsSource g.layout k n → source_of ts n ≡ source_of us n
  same_source g (source_node.Parts of) o = refl
  same_source g (source_node.Chosen c a b) o =
      three (λ r s t. chosen (as_test r) (as_source s) (as_source t)) _ _ _ _ _ _ (h c o.0) (h a o.1) (h b o.2)

  same_arguments : (n : ArgumentNode) → IsArgument k n → arguments_of ts n ≡ arguments_of us n
  same_arguments argument_node.Nothing o = refl
  same_arguments (argument_node.Value a rest) o =
      two (λ s t. a_value (as_test s) ∷ as_arguments t) _ _ _ _ (h a o.0) (h rest o.1)
  same_arguments (argument_node.Item a rest) o =
      two (λ s t. an_item (as_test s) ∷ as_arguments t) _ _ _ _ (h a o.0) (h rest o.1)

  same_incoming : (g : Ground) (n : IncomingNode) → IsIncoming g.layout k n → incoming_of ts n ≡ incoming_of us n
  same_incoming g incoming_node.Nothing o = refl
  same_incoming g (incoming_node.Value to a rest) o =
      two (λ s t. value_in to (as_test s) ∷ as_incoming t) _ _ _ _ (h a o.1) (h rest o.2)
  same_incoming g (incoming_node.Parts to a rest) o =
      two (λ s t. parts_in to (as_source s) ∷ as_incoming t) _ _ _ _ (h a o.1) (h rest o.2)
  same_incoming g (incoming_node.Zero to rest) o = ap (λ t. zero_in to ∷ as_incoming t) (h rest o.1)

  same_outgoing : (g : Ground) (n : OutgoingNode) → IsOutgoing g.layout k n → outgoing_of ts n ≡ outgoing_of us n
  same_outgoing g outgoing_node.Nothing o = refl
  same_outgoing g (outgoing_node.Value from to rest) o = ap (λ t. value_out from to ∷ as_outgoing t) (h rest o.2)
  same_outgoing g (outgoing_node.Parts from to rest) o = ap (λ t. parts_out from to ∷ as_outgoing t) (h rest o.2)

  same_statement : (g : Ground) (n : StatementNode) → IsStatement g.layout g.shapes k n → statement_of ts n ≡ statement_of us n
  same_statement g statement_node.Nothing o = refl
  same_statement g (statement_node.Sequence a b) o =
      two (λ s t. sequence (as_statement s) (as_statement t)) _ _ _ _ (h a o.0) (h b o.1)
  same_statement g (statement_node.Start r) o = refl
  same_statement g (statement_node.Assign to slice a) o = ap (λ t. does (assign to slice (as_test t))) (h a o.2)
  same_statement g (statement_node.AssignParts to a) o = ap (λ t. does (assign_parts to (as_source t))) (h a o.1)
  same_statement g (statement_node.SetValid header on) o = refl
  same_statement g (statement_node.PushFront stack count) o = refl
  same_statement g (statement_node.PopFront stack count) o = refl
  same_statement g (statement_node.Extract header) o = refl
  same_statement g (statement_node.Emit a) o = ap (λ t. does (emit_headers (as_source t))) (h a o)
  same_statement g (statement_node.Execute what a) o = ap (λ t. does (execute what (as_arguments t))) (h a o.1)
  same_statement g (statement_node.Apply table) o = refl
  same_statement g (statement_node.LetGo a) o = ap (λ t. does (let_go (as_test t))) (h a o)
  same_statement g (statement_node.Call action apart a b) o =
      two (λ s t. call action apart (as_incoming s) (as_outgoing t)) _ _ _ _ (h a o.0) (h b o.1)
  same_statement g (statement_node.Branch c a b) o =
      three (λ r s t. branch (as_test r) (as_statement s) (as_statement t)) _ _ _ _ _ _ (h c o.0) (h a o.1) (h b o.2)
  same_statement g (statement_node.Switch table a) o = ap (λ t. switch table (as_statement t)) (h a o)
  same_statement g (statement_node.Labelled action a b) o =
      two (λ s t. labelled action (as_statement s) (as_statement t)) _ _ _ _ (h a o.0) (h b o.1)
  same_statement g (statement_node.Otherwise a) o = ap (λ t. otherwise (as_statement t)) (h a o)

of_parts : (g : Ground) (es : List Ready) → growth.OfChildren no_tree (tree_of es) (IsNode g)
of_parts g es k ts us (node.Test of) o h = ap a_test (same_test k ts us h es g.expressions of o)
of_parts g es k ts us (node.Source of) o h = ap a_source (same_source k ts us h g of o)
of_parts g es k ts us (node.Argument of) o h = ap some_arguments (same_arguments k ts us h of o)
of_parts g es k ts us (node.Incoming of) o h = ap some_incoming (same_incoming k ts us h g of o)
of_parts g es k ts us (node.Outgoing of) o h = ap some_outgoing (same_outgoing k ts us h g of o)
of_parts g es k ts us (node.Statement of) o h = ap a_statement (same_statement k ts us h g of o)

-- one more node

pub one_more : (g : Ground) (nodes : List Node) (n : Node) → AreNodes g nodes → IsNode g (length nodes) n → AreNodes g (nodes ++ n ∷ [])
one_more g nodes n o h =
    let same : length nodes ≡ 0 + length nodes = omega arith in
    growth.order_more (IsNode g) 0 nodes n o (subst (λ k. IsNode g k n) same h)

pub adds : (nodes : List Node) (n : Node) (i : ℕ) → i ≡ length nodes → (es : List Ready) → Adds (trees es nodes) (trees es (nodes ++ n ∷ [])) i (tree_of es (trees es nodes) n)
adds nodes n i e es = growth.adds_one (tree_of es) nodes n i e

-- the node at a place

read : (g : Ground) (es : List Ready) (nodes : List Node) (i : ℕ) (n : Node) → AreNodes g nodes → i < length nodes → n ≡ get_or nodes i n → (at (trees es nodes) i ≡ tree_of es (trees es nodes) n) × IsNode g i n
read g es nodes i n o h e =
    growth.node_tree no_tree (tree_of es) (IsNode g) (of_parts g es) nodes i n o (omega (arith, growth.count (tree_of es) nodes)) e

pub read_tree : (g : Ground) (nodes : List Node) (i : ℕ) (n : Node) → AreNodes g nodes → i < length nodes → n ≡ get_or nodes i n → (es : List Ready) → at (trees es nodes) i ≡ tree_of es (trees es nodes) n
read_tree g nodes i n o h e es = (read g es nodes i n o h e).0

pub read_fits : (g : Ground) (nodes : List Node) (i : ℕ) (n : Node) → AreNodes g nodes → i < length nodes → n ≡ get_or nodes i n → IsNode g i n
read_fits g nodes i n o h e = (read g [] nodes i n o h e).1

-- over more expressions the nodes fit as well

more_test : (count more k : ℕ) (n : TestNode) → count ≤ more → IsTest count k n → IsTest more k n
more_test count more k (test_node.Plain e) h o = omega (arith, h, o)
more_test count more k (test_node.Hits table) h o = o
more_test count more k (test_node.Misses table) h o = o
more_test count more k (test_node.Alone of a) h o = o
more_test count more k (test_node.Both a b) h o = o
more_test count more k (test_node.Either a b) h o = o
more_test count more k (test_node.Pair of a b) h o = o
more_test count more k (test_node.Choice c a b) h o = o

more_node : (g : Ground) (more : ℕ) → g.expressions ≤ more → (k : ℕ) (n : Node) → IsNode g k n → IsNode (over more g) k n
more_node g more h k (node.Test of) o = more_test g.expressions more k of h o
more_node g more h k (node.Source of) o = o
more_node g more h k (node.Argument of) o = o
more_node g more h k (node.Incoming of) o = o
more_node g more h k (node.Outgoing of) o = o
more_node g more h k (node.Statement of) o = o

pub over_more : (g : Ground) (more : ℕ) (nodes : List Node) → g.expressions ≤ more → AreNodes g nodes → AreNodes (over more g) nodes
over_more g more nodes h o = growth.order_wider (IsNode g) (IsNode (over more g)) (more_node g more h) 0 nodes o

-- an expression that a node names takes none away

needed_by_more : (n : TestNode) (count : ℕ) → count ≤ needed_by n count
needed_by_more (test_node.Plain e) count = omega arith
needed_by_more (test_node.Hits table) count = omega arith
needed_by_more (test_node.Misses table) count = omega arith
needed_by_more (test_node.Alone of a) count = omega arith
needed_by_more (test_node.Both a b) count = omega arith
needed_by_more (test_node.Either a b) count = omega arith
needed_by_more (test_node.Pair of a b) count = omega arith
needed_by_more (test_node.Choice c a b) count = omega arith

pub needed_more : (n : Node) (count : ℕ) → count ≤ needed n count
needed_more (node.Test of) count = needed_by_more of count
needed_more (node.Source of) count = omega arith
needed_more (node.Argument of) count = omega arith
needed_more (node.Incoming of) count = omega arith
needed_more (node.Outgoing of) count = omega arith
needed_more (node.Statement of) count = omega arith

-- further expressions change no tree

module _ (es fs : List Ready) (count : ℕ) (same : (i : ℕ) → i < count → ready_at es i ≡ ready_at fs i) where
  further_test : (k : ℕ) (ts : List Tree) (n : TestNode) → IsTest count k n → test_of es ts n ≡ test_of fs ts n
  further_test k ts (test_node.Plain e) o = ap plain (same e o)
  further_test k ts (test_node.Hits table) o = refl
  further_test k ts (test_node.Misses table) o = refl
  further_test k ts (test_node.Alone of a) o = refl
  further_test k ts (test_node.Both a b) o = refl
  further_test k ts (test_node.Either a b) o = refl
  further_test k ts (test_node.Pair of a b) o = refl
  further_test k ts (test_node.Choice c a b) o = refl

further_node : (g : Ground) (es fs : List Ready) → ((i : ℕ) → i < g.expressions → ready_at es i ≡ ready_at fs i) → (k : ℕ) (ts : List Tree) (n : Node) → IsNode g k n → tree_of es ts n ≡ tree_of fs ts n
further_node g es fs same k ts (node.Test of) o = ap a_test (further_test es fs g.expressions same k ts of o)
further_node g es fs same k ts (node.Source of) o = refl
further_node g es fs same k ts (node.Argument of) o = refl
further_node g es fs same k ts (node.Incoming of) o = refl
further_node g es fs same k ts (node.Outgoing of) o = refl
further_node g es fs same k ts (node.Statement of) o = refl

pub further : (g : Ground) (es fs : List Ready) (nodes : List Node) → ((i : ℕ) → i < g.expressions → ready_at es i ≡ ready_at fs i) → AreNodes g nodes → trees es nodes ≡ trees fs nodes
further g es fs nodes same o = growth.grow_same (IsNode g) (tree_of es) (tree_of fs) (further_node g es fs same) 0 [] nodes o
