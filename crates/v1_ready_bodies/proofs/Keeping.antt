-- Statements stay what they are when more is held.
use Rattle.std.proofs.Common.{◌≡◌, ℕ, ◌<◌, ◌≤◌, Option, Some, None, List, [], ◌∷◌, length, refl, sym, ap, ◌∙◌, subst, arith}
use Rattle.node_lists.specs.Trees.{Adds}
use Rattle.node_lists.proofs.Growth as growth
use Rattle.p416_syntax.specs.Declarations.{layouts_of}
use Rattle.v1_ready_blocks.specs.declared.nodes.StatementNode.{StatementNode}
use Rattle.v1_ready_blocks.specs.declared.nodes.Node.TheVariants as node
use Rattle.v1_ready_blocks.specs.Tests.{Test}
use Rattle.v1_ready_blocks.specs.Statements.{Statement, sequence}
use Rattle.v1_ready_statements.specs.Statements.{both_ready}
use Rattle.v1_ready_blocks.specs.Nodes.{Tree, no_tree, as_statement, statement_at, statement_of, tree_of}
use Rattle.v1_ready_nodes.specs.Held.{Held, ready_in, trees_in, IsHeld, Grows}
use Rattle.v1_ready_nodes.proofs.Growing.{grows_same}
use Rattle.v1_ready_bodies.specs.declared.standing.Standing.{Standing}
use Rattle.v1_ready_bodies.specs.Seen.{seen_statement, IsNodeIn, IsStanding, Stays}
use Rattle.v1_ready_bodies.specs.internal.Steps.{seen_all, AreNodesIn, first_made, others_made, branch_made, labelled_by}

pub statement_added : (h g : Held) (place : ℕ) (x : StatementNode) → Adds (trees_in h) (trees_in g) place (tree_of (ready_in h) (trees_in h) (node.Statement x)) → statement_at (trees_in g) place ≡ statement_of (trees_in h) x
statement_added h g place x adds = ap as_statement (growth.adds_tree (trees_in h) (trees_in g) place (tree_of (ready_in h) (trees_in h) (node.Statement x)) adds no_tree)

pub statement_within : (h g : Held) (place : ℕ) (t : Tree) → Adds (trees_in h) (trees_in g) place t → place < length (trees_in g)
statement_within h g place t adds = growth.adds_place (trees_in h) (trees_in g) place t adds

pub grows_not : (h : Held) → IsHeld h → Grows h h
grows_not h held = grows_same h held

pub stays_same : (p : Standing) → Stays p p
stays_same p = record { top = refl; types = refl }

pub stays_on : (p q r : Standing) → Stays p q → Stays q r → Stays p r
stays_on p q r first second = record { top = second.top ∙ first.top; types = second.types ∙ first.types }

pub still_stands : (p q : Standing) → IsStanding p → Stays p q → IsStanding q
still_stands p q is stays = ap (λ t. t.now) stays.types ∙ (is ∙ sym (ap (λ t. layouts_of t.now) stays.top))

module _ (h g : Held) (grows : Grows h g) where
  pub one_kept : (v : Option ℕ) → IsNodeIn h v → seen_statement g v ≡ seen_statement h v
  one_kept None within = refl
  one_kept (Some i) within = ap (λ t. Some (as_statement t)) (grows.trees i within)

  pub one_wider : (v : Option ℕ) → IsNodeIn h v → IsNodeIn g v
  one_wider None within = tt
  one_wider (Some i) within = let more : length (trees_in h) ≤ length (trees_in g) = grows.more in omega arith

  pub all_kept : (vs : List (Option ℕ)) → AreNodesIn h vs → seen_all g vs ≡ seen_all h vs
  all_kept [] within = refl
  all_kept (v ∷ vs) within = ap (λ x. x ∷ seen_all g vs) (one_kept v within.0) ∙ ap (λ xs. seen_statement h v ∷ xs) (all_kept vs within.1)

  pub all_wider : (vs : List (Option ℕ)) → AreNodesIn h vs → AreNodesIn g vs
  all_wider [] within = tt
  all_wider (v ∷ vs) within = (one_wider v within.0, all_wider vs within.1)

-- a statement is put in front of others

module _ (h g : Held) (grows : Grows h g) where
  pub put_seen : (place : Option ℕ) (rest now : List (Option ℕ)) (x : Option Statement) → AreNodesIn h rest → seen_statement g place ≡ x → now ≡ place ∷ rest → seen_all g now ≡ x ∷ seen_all h rest
  put_seen place rest now x within is so =
      ap (seen_all g) so ∙ (ap (λ y. y ∷ seen_all g rest) is ∙ ap (λ ys. x ∷ ys) (all_kept h g grows rest within))

  pub put_within : (place : Option ℕ) (rest now : List (Option ℕ)) → AreNodesIn h rest → IsNodeIn g place → now ≡ place ∷ rest → AreNodesIn g now
  put_within place rest now within one so = subst (AreNodesIn g) (sym so) (one, all_wider h g grows rest within)

  -- in place of one of them, and of two

  pub one_joined_so : (f : Option Statement → Option Statement) (made rest now : List (Option ℕ)) (last new : Option ℕ) (others : List (Option Statement)) → AreNodesIn h rest → seen_all h rest ≡ others
      → seen_statement h last ≡ first_made (seen_all h made) → seen_statement g new ≡ f (seen_statement h last) → now ≡ new ∷ rest → seen_all g now ≡ f (first_made (seen_all h made)) ∷ others
  one_joined_so f made rest now last new others within left is joined so =
      put_seen new rest now (f (first_made (seen_all h made))) within (joined ∙ ap f is) so ∙ ap (λ ys. f (first_made (seen_all h made)) ∷ ys) left

  pub two_joined : (f : Option Statement → Option Statement → Option Statement) (made mid rest now : List (Option ℕ)) (second first both : Option ℕ) → AreNodesIn h rest → seen_all h mid ≡ others_made (seen_all h made) → seen_all h rest ≡ others_made (seen_all h mid)
      → seen_statement h second ≡ first_made (seen_all h made) → seen_statement h first ≡ first_made (seen_all h mid) → seen_statement g both ≡ f (seen_statement h first) (seen_statement h second) → now ≡ both ∷ rest
      → seen_all g now ≡ f (first_made (others_made (seen_all h made))) (first_made (seen_all h made)) ∷ others_made (others_made (seen_all h made))
  two_joined f made mid rest now second first both within middle left last one joined so =
      let m = seen_all h made in
      put_seen both rest now (f (first_made (others_made m)) (first_made m)) within
      (joined ∙ (ap (λ x. f x (seen_statement h second)) (one ∙ ap first_made middle) ∙ ap (f (first_made (others_made m))) last)) so
      ∙ ap (λ ys. f (first_made (others_made m)) (first_made m) ∷ ys) (left ∙ ap others_made middle)

  -- in front of a statement that is kept
  pub before_kept : (rest : Option ℕ) (x y now : Option Statement) → IsNodeIn h rest → x ≡ y → now ≡ both_ready sequence x (seen_statement g rest) → now ≡ both_ready sequence y (seen_statement h rest)
  before_kept rest x y now within is so = so ∙ (ap (λ z. both_ready sequence z (seen_statement g rest)) is ∙ ap (both_ready sequence y) (one_kept h g grows rest within))

  -- the branches of a test are kept
  pub branches_kept : (made : List (Option ℕ)) (x y : Option Test) (now : List (Option Statement)) → AreNodesIn h made → x ≡ y → now ≡ branch_made x (seen_all g made) → now ≡ branch_made y (seen_all h made)
  branches_kept made x y now within is so = so ∙ (ap (λ z. branch_made z (seen_all g made)) is ∙ ap (branch_made y) (all_kept h g grows made within))

  -- the case of an action is put in front of others
  pub label_put : (made rest : List (Option ℕ)) (numbered n : Option ℕ) (body behind new : Option ℕ) → AreNodesIn h rest → seen_statement h body ≡ first_made (seen_all h made) → seen_all h rest ≡ others_made (seen_all h made) → numbered ≡ n
      → seen_statement g new ≡ labelled_by numbered (seen_statement h body) (seen_statement h behind) → labelled_by n (first_made (seen_all h made)) (seen_statement h behind) ∷ others_made (seen_all h made) ≡ seen_statement g new ∷ seen_all g rest
  label_put made rest numbered n body behind new within first others is so =
      sym (ap (λ y. y ∷ seen_all g rest) (so ∙ (ap (λ a. labelled_by a (seen_statement h body) (seen_statement h behind)) is ∙ ap (λ y. labelled_by n y (seen_statement h behind)) first))
      ∙ ap (λ ys. labelled_by n (first_made (seen_all h made)) (seen_statement h behind) ∷ ys) (all_kept h g grows rest within ∙ others))
