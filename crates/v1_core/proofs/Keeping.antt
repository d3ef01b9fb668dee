-- What `node_lists` proves of any list of nodes, for those of ready expressions.
use Rattle.std.proofs.Common.{◌≡◌, ℕ, ◌+◌, ◌<◌, List, [], ◌∷◌, ◌++◌, length, get_or, ap, subst, ◌∙◌, refl, arith}
use Rattle.node_lists.specs.Trees.{grow, Adds}
use Rattle.node_lists.proofs.Growth as growth
use Rattle.v1_core.specs.Layouts.{Layout}
use Rattle.v1_core.specs.declared.node.Node.{Node}
use Rattle.v1_core.specs.declared.node.Node.TheVariants as node
use Rattle.v1_core.specs.Ready.{slice, to_bits, to_truth, unary, both, either, binary, choice}
use Rattle.v1_core.specs.Nodes.{nothing, ready_at, ready_of, IsNode, AreNodes}

-- the expression of a node depends on no expressions but those of its operands
of_operands : (l : Layout) → growth.OfChildren nothing ready_of (IsNode l)
of_operands l n es fs (node.Number width number) o h = refl
of_operands l n es fs (node.Truth holds) o h = refl
of_operands l n es fs (node.Error number) o h = refl
of_operands l n es fs (node.Slot of number) o h = refl
of_operands l n es fs (node.ElementSlot of) o h = refl
of_operands l n es fs (node.Valid header) o h = refl
of_operands l n es fs (node.ElementValid of) o h = refl
of_operands l n es fs (node.Ahead width) o h = refl
of_operands l n es fs (node.Slice a place width) o h = ap (λ t. slice t place width) (h a o.0)
of_operands l n es fs (node.ToBits width a) o h = ap (λ t. to_bits width t) (h a o.0)
of_operands l n es fs (node.ToTruth a) o h = ap (λ t. to_truth t) (h a o)
of_operands l n es fs (node.Unary operator a) o h = ap (λ t. unary operator t) (h a o)
of_operands l n es fs (node.And a b) o h = ap (λ t. both t (ready_at es b)) (h a o.0) ∙ ap (λ t. both (ready_at fs a) t) (h b o.1)
of_operands l n es fs (node.Or a b) o h = ap (λ t. either t (ready_at es b)) (h a o.0) ∙ ap (λ t. either (ready_at fs a) t) (h b o.1)
of_operands l n es fs (node.Binary operator a b) o h = ap (λ t. binary operator t (ready_at es b)) (h a o.0) ∙ ap (λ t. binary operator (ready_at fs a) t) (h b o.1)
of_operands l n es fs (node.Choice a b c) o h = ap (λ t. choice t (ready_at es b) (ready_at es c)) (h a o.0) ∙ ap (λ t. choice (ready_at fs a) t (ready_at es c)) (h b o.1) ∙ ap (λ t. choice (ready_at fs a) (ready_at fs b) t) (h c o.2)

pub one_more : (l : Layout) (nodes : List Node) (n : Node) → AreNodes l nodes → IsNode l (length nodes) n → AreNodes l (nodes ++ n ∷ [])
one_more l nodes n o h =
    let same : length nodes ≡ 0 + length nodes = omega arith in
    growth.order_more (IsNode l) 0 nodes n o (subst (λ k. IsNode l k n) same h)

pub adds : (nodes : List Node) (n : Node) (i : ℕ) → i ≡ length nodes → Adds (grow ready_of [] nodes) (grow ready_of [] (nodes ++ n ∷ [])) i (ready_of (grow ready_of [] nodes) n)
adds nodes n i e = growth.adds_one ready_of nodes n i e

read : (l : Layout) (nodes : List Node) (i : ℕ) (n : Node) → AreNodes l nodes → i < length nodes → n ≡ get_or nodes i n → (ready_at (grow ready_of [] nodes) i ≡ ready_of (grow ready_of [] nodes) n) × IsNode l i n
read l nodes i n o h e = growth.node_tree nothing ready_of (IsNode l) (of_operands l) nodes i n o (omega (arith, growth.count ready_of nodes)) e

pub read_tree : (l : Layout) (nodes : List Node) (i : ℕ) (n : Node) → AreNodes l nodes → i < length nodes → n ≡ get_or nodes i n → ready_at (grow ready_of [] nodes) i ≡ ready_of (grow ready_of [] nodes) n
read_tree l nodes i n o h e = (read l nodes i n o h e).0

pub read_fits : (l : Layout) (nodes : List Node) (i : ℕ) (n : Node) → AreNodes l nodes → i < length nodes → n ≡ get_or nodes i n → IsNode l i n
read_fits l nodes i n o h e = (read l nodes i n o h e).1
