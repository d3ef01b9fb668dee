-- The parameters of an action one in front of the other.
use Rattle.std.proofs.Common.{◌≡◌, ℕ, suc, ◌+◌, ◌<◌, Bool, true, false, Option, Some, None, List, [], ◌∷◌, length, drop, get_or, refl, sym, ap, ◌∙◌, arith}
use Rattle.std.specs.Prelude.{option_and_then}
use Rattle.std.proofs.Math.Seq.{drop-cons}
use Rattle.node_lists.specs.Trees.{Adds}
use Rattle.node_lists.proofs.Growth as growth
use Rattle.p416_syntax.specs.declared.parts.Param.{Param}
use Rattle.p416_syntax.specs.Tree.{Exp16}
use Rattle.p416_syntax.specs.Names.{Name}
use Rattle.p416_syntax.specs.Kinds.{Kind}
use Rattle.p416_syntax.specs.Scopes.{Scope, kind_of_type}
use Rattle.v1_core.specs.Seats.{Form, slot_form, header_form, stack_form, struct_form, no_form, Seat}
use Rattle.v1_ready_forms.specs.Named.{NamedSeat}
use Rattle.v1_ready_blocks.specs.declared.nodes.IncomingNode.{IncomingNode}
use Rattle.v1_ready_blocks.specs.declared.nodes.OutgoingNode.{OutgoingNode}
use Rattle.v1_ready_blocks.specs.declared.nodes.Node.TheVariants as node
use Rattle.v1_ready_blocks.specs.Arguments.{Incoming, Outgoing}
use Rattle.v1_ready_blocks.specs.Nodes.{Tree, no_tree, as_incoming, as_outgoing, tree_of}
use Rattle.v1_ready_blocks.specs.Nodes as nodes
use Rattle.v1_ready_blocks.specs.Statements as statements
use Rattle.v1_ready_nodes.specs.Held.{Held, ready_in, trees_in, Grows}
use Rattle.v1_ready_statements.specs.Around.{Around, table_found, variable_seat}
use Rattle.v1_ready_statements.specs.Given.{cons_option, join_option, is_out, incoming_at, incoming_of, outgoing_of, all_incoming, all_outgoing}
use Rattle.v1_ready_statements.specs.Called.{with_both}
use Rattle.v1_ready_operands.specs.declared.passed.Passed.{Passed}
use Rattle.v1_ready_operands.specs.Seen.{seen_incoming, ArePassedIn}
use Rattle.v1_ready_operands.specs.internal.Passes.{incoming_by, behind_in, behind_out}

-- what is put

pub incoming_added : (h g : Held) (place : ℕ) (x : IncomingNode) → Adds (trees_in h) (trees_in g) place (tree_of (ready_in h) (trees_in h) (node.Incoming x)) → nodes.incoming_at (trees_in g) place ≡ nodes.incoming_of (trees_in h) x
incoming_added h g place x adds = ap as_incoming (growth.adds_tree (trees_in h) (trees_in g) place (tree_of (ready_in h) (trees_in h) (node.Incoming x)) adds no_tree)

pub outgoing_added : (h g : Held) (place : ℕ) (x : OutgoingNode) → Adds (trees_in h) (trees_in g) place (tree_of (ready_in h) (trees_in h) (node.Outgoing x)) → nodes.outgoing_at (trees_in g) place ≡ nodes.outgoing_of (trees_in h) x
outgoing_added h g place x adds = ap as_outgoing (growth.adds_tree (trees_in h) (trees_in g) place (tree_of (ready_in h) (trees_in h) (node.Outgoing x)) adds no_tree)

pub passed_within : (h g : Held) (place : ℕ) (t : Tree) → Adds (trees_in h) (trees_in g) place t → place < length (trees_in g)
passed_within h g place t adds = growth.adds_place (trees_in h) (trees_in g) place t adds

pub incoming_stays : (h g : Held) (place : Option ℕ) → Grows h g → ArePassedIn h place → seen_incoming g place ≡ seen_incoming h place
incoming_stays h g None grows within = refl
incoming_stays h g (Some place) grows within = ap (λ t. Some (as_incoming t)) (grows.trees place within)

pub call_is : (number : ℕ) (apart due : Bool) (i j : Option (List Incoming)) (o p : Option (List Outgoing)) → apart ≡ due → i ≡ j → o ≡ p → with_both (statements.call number apart) i o ≡ with_both (statements.call number due) j p
call_is number apart due i j o p same starts ends =
    ap (λ x. with_both (statements.call number x) i o) same
    ∙ (ap (λ x. with_both (statements.call number due) x o) starts ∙ ap (with_both (statements.call number due) j) ends)

pub join_none : {A : Type 0} (z : Option (List A)) → z ≡ join_option (Some []) z
join_none None = refl
join_none (Some zs) = refl

-- of a block a parameter asks for the numbers of its tables alone

incoming_in : (b : Around) (s : Scope) (seats : List NamedSeat) (k : Kind) (out : Bool) (t : Seat) (e : Exp16) → incoming_by s seats (table_found b) k out t e ≡ incoming_at b s seats k out t e
incoming_in b s seats k true t e = refl
incoming_in b s seats k false t e = by t.form where
  by : (form : Form) → (let x : Seat = record t { form = form } in incoming_by s seats (table_found b) k false x e ≡ incoming_at b s seats k false x e)
  by (slot_form content) = refl
  by (header_form type) = refl
  by (stack_form type size) = refl
  by (struct_form type) = refl
  by no_form = refl

seated_in : (b : Around) (s : Scope) (seats : List NamedSeat) (k : Kind) (out : Bool) (o : Option Seat) (e : Exp16) → option_and_then (λ t. incoming_by s seats (table_found b) k out t e) o ≡ option_and_then (λ t. incoming_at b s seats k out t e) o
seated_in b s seats k out None e = refl
seated_in b s seats k out (Some t) e = incoming_in b s seats k out t e

pub one_in : (b : Around) (s : Scope) (seats : List NamedSeat) (tables : Name → Option ℕ) (n : ℕ) (p : Param) (e : Exp16) (o : Option Seat) (k : Kind) (out : Bool) (rest : Option (List Incoming)) → tables ≡ table_found b → o ≡ variable_seat b n → k ≡ kind_of_type s.names p.of → out ≡ is_out p.direction
    → cons_option (option_and_then (λ t. incoming_by s seats tables k out t e) o) rest ≡ cons_option (incoming_of b s seats n p e) rest
one_in b s seats tables n p e o k out rest tables_are seat kind is =
    ap (λ (x : Name → Option ℕ). cons_option (option_and_then (λ t. incoming_by s seats x k out t e) o) rest) tables_are
    ∙ (ap (λ x. cons_option x rest) (seated_in b s seats k out o e)
    ∙ (ap (λ x. cons_option (option_and_then (λ t. incoming_at b s seats k out t e) x) rest) seat
    ∙ (ap (λ x. cons_option (option_and_then (λ t. incoming_at b s seats x out t e) (variable_seat b n)) rest) kind
    ∙ ap (λ x. cons_option (option_and_then (λ t. incoming_at b s seats (kind_of_type s.names p.of) x t e) (variable_seat b n)) rest) is)))

-- parameters with their arguments, from the first one on

next : (ps : List Param) (i : ℕ) (p : Param) → i < length ps → p ≡ get_or ps i p → drop i ps ≡ p ∷ drop (i + 1) ps
next ps i p within is =
    let one : suc i ≡ i + 1 = omega arith in
    drop-cons ps i p within ∙ (ap (λ x. x ∷ drop (suc i) ps) (sym is) ∙ ap (λ n. p ∷ drop n ps) one)

module _ (b : Around) (s : Scope) (seats : List NamedSeat) (ps : List Param) (i n m : ℕ) (p : Param) (e : Exp16) (given rest : List Exp16) (old new : List Passed) (x : Passed) (within : i < length ps) (is : p ≡ get_or ps i p) (taken : given ≡ e ∷ rest) (put : new ≡ x ∷ old) (number : x.number ≡ n) (parameter : x.parameter.now ≡ p) (argument : x.argument ≡ e) (behind : m ≡ n + 1) where
  later : suc n ≡ m
  later = let same : m ≡ n + 1 = behind in omega arith

  pub in_turn : (whole : Option (List Incoming)) → behind_in b s seats old (all_incoming b s seats n (drop i ps) given) ≡ whole → behind_in b s seats new (all_incoming b s seats m (drop (i + 1) ps) rest) ≡ whole
  in_turn whole so =
      ap (λ xs. behind_in b s seats xs (all_incoming b s seats m (drop (i + 1) ps) rest)) put
      ∙ (ap (λ k. behind_in b s seats old (cons_option (incoming_of b s seats k x.parameter.now x.argument) (all_incoming b s seats m (drop (i + 1) ps) rest))) number
      ∙ (ap (λ k. behind_in b s seats old (cons_option (incoming_of b s seats n k x.argument) (all_incoming b s seats m (drop (i + 1) ps) rest))) parameter
      ∙ (ap (λ k. behind_in b s seats old (cons_option (incoming_of b s seats n p k) (all_incoming b s seats m (drop (i + 1) ps) rest))) argument
      ∙ (ap (λ k. behind_in b s seats old (cons_option (incoming_of b s seats n p e) (all_incoming b s seats k (drop (i + 1) ps) rest))) (sym later)
      ∙ (sym (ap (λ xs. behind_in b s seats old (all_incoming b s seats n xs (e ∷ rest))) (next ps i p within is))
      ∙ (sym (ap (λ xs. behind_in b s seats old (all_incoming b s seats n (drop i ps) xs)) taken) ∙ so))))))

  pub out_turn : (whole : Option (List Outgoing)) → behind_out b s seats old (all_outgoing b s seats n (drop i ps) given) ≡ whole → behind_out b s seats new (all_outgoing b s seats m (drop (i + 1) ps) rest) ≡ whole
  out_turn whole so =
      ap (λ xs. behind_out b s seats xs (all_outgoing b s seats m (drop (i + 1) ps) rest)) put
      ∙ (ap (λ k. behind_out b s seats old (join_option (outgoing_of b s seats k x.parameter.now x.argument) (all_outgoing b s seats m (drop (i + 1) ps) rest))) number
      ∙ (ap (λ k. behind_out b s seats old (join_option (outgoing_of b s seats n k x.argument) (all_outgoing b s seats m (drop (i + 1) ps) rest))) parameter
      ∙ (ap (λ k. behind_out b s seats old (join_option (outgoing_of b s seats n p k) (all_outgoing b s seats m (drop (i + 1) ps) rest))) argument
      ∙ (ap (λ k. behind_out b s seats old (join_option (outgoing_of b s seats n p e) (all_outgoing b s seats k (drop (i + 1) ps) rest))) (sym later)
      ∙ (sym (ap (λ xs. behind_out b s seats old (all_outgoing b s seats n xs (e ∷ rest))) (next ps i p within is))
      ∙ (sym (ap (λ xs. behind_out b s seats old (all_outgoing b s seats n (drop i ps) xs)) taken) ∙ so))))))
