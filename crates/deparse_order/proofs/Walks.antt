-- What walks extract, written as lists of states, is what labels say along the walks of a graph.
use Rattle.std.proofs.Common.{◌≡◌, ℕ, inl, inr, ⊎_elim, List, [], ◌∷◌, ◌++◌, flat_map, Contains, refl, sym, subst}
use Rattle.std.proofs.lemmas.List.Concat.{flat_map-cons}
use Rattle.digraph.specs.Graphs.{Among, successors, IsEdge, Reaches, Walk, WalkTo, Edge, Onward}
use Rattle.digraph.proofs.Walking.{edge_on, first_edge}
use Rattle.least_order.specs.Orders.{Precedes}
use Rattle.least_order.specs.Labelled.{labels_of, IsFound, ComesBefore}
use Rattle.least_order.proofs.Members.{among_append, among_front, among_behind, precedes_front, precedes_behind, precedes_across}
use Rattle.p414_syntax.specs.Walks.{IsWalk}
use Rattle.deparse_order.proofs.Splitting.{contains_of, among_of, precedes_append}

-- a walk from a state, whose extracts are such
pub record WalksFrom (next extracts : ℕ → List ℕ) (s : ℕ) (Q : List ℕ → Type 0) : Type 0 where
  pub rest : List ℕ
  pub walks : IsWalk next (s ∷ rest)
  pub holds : Q (flat_map extracts (s ∷ rest))

module _ (g labels : List (List ℕ)) (next extracts : ℕ → List ℕ) (next_is : (a : ℕ) → successors g a ≡ next a) (extracts_are : (a : ℕ) → labels_of labels a ≡ extracts a) where
  to_edge : (a b : ℕ) → Contains (next a) b → IsEdge g a b
  to_edge a b has = subst (λ (xs : List ℕ). Among b xs) (sym (next_is a)) (among_of (next a) b has)

  of_edge : (a b : ℕ) → IsEdge g a b → Contains (next a) b
  of_edge a b edge = contains_of (next a) b (subst (λ (xs : List ℕ). Among b xs) (next_is a) edge)

  label_at : (a x : ℕ) → Among x (extracts a) → Among x (labels_of labels a)
  label_at a x i = subst (λ (xs : List ℕ). Among x xs) (sym (extracts_are a)) i

  pair_at : (a x y : ℕ) → Precedes x y (extracts a) → Precedes x y (labels_of labels a)
  pair_at a x y p = subst (λ (xs : List ℕ). Precedes x y xs) (sym (extracts_are a)) p

  -- what a walk extracts is a label of a state that it passes
  pub find_label : (x s : ℕ) (rest : List ℕ) → IsWalk next (s ∷ rest) → Among x (flat_map extracts (s ∷ rest)) → IsFound g labels s x
  find_label x s [] walks i =
      ⊎_elim
      (λ here. (s, inl refl, label_at s x here))
      (λ none. absurd none)
      (among_append (extracts s) [] x (subst (λ (xs : List ℕ). Among x xs) (flat_map-cons extracts s []) i))
  find_label x s (t ∷ rest) walks i =
      ⊎_elim
      (λ here. (s, inl refl, label_at s x here))
      (λ later. let found = find_label x t rest walks.1 later in (found.0, inr (edge_on g s t found.0 (to_edge s t walks.0) found.1), found.2))
      (among_append (extracts s) (flat_map extracts (t ∷ rest)) x (subst (λ (xs : List ℕ). Among x xs) (flat_map-cons extracts s (t ∷ rest)) i))

  pub find_pair : (x y s : ℕ) (rest : List ℕ) → IsWalk next (s ∷ rest) → Precedes x y (flat_map extracts (s ∷ rest)) → ComesBefore g labels s x y
  find_pair x y s [] walks p =
      ⊎_elim
      (λ here. (s, inl refl, inl (pair_at s x y here)))
      (λ beyond. absurd (⊎_elim (λ across. across.1) (λ none. none) beyond))
      (precedes_append (extracts s) [] x y (subst (λ (xs : List ℕ). Precedes x y xs) (flat_map-cons extracts s []) p))
  find_pair x y s (t ∷ rest) walks p =
      ⊎_elim
      (λ here. (s, inl refl, inl (pair_at s x y here)))
      (λ beyond.
      ⊎_elim
      (λ across. let found = find_label y t rest walks.1 across.1 in (s, inl refl, inr (found.0, edge_on g s t found.0 (to_edge s t walks.0) found.1, label_at s x across.0, found.2)))
      (λ later. let found = find_pair x y t rest walks.1 later in (found.0, inr (edge_on g s t found.0 (to_edge s t walks.0) found.1), found.2))
      beyond)
      (precedes_append (extracts s) (flat_map extracts (t ∷ rest)) x y (subst (λ (xs : List ℕ). Precedes x y xs) (flat_map-cons extracts s (t ∷ rest)) p))

  -- a walk with a state in front of it
  one_on : (Q : List ℕ → Type 0) → ((xs ys : List ℕ) → Q ys → Q (xs ++ ys)) → (s t : ℕ) → Contains (next s) t → WalksFrom next extracts t Q → WalksFrom next extracts s Q
  one_on Q behind s t has w = record {
    rest = t ∷ w.rest;
    walks = (has, w.walks);
    holds = subst Q (sym (flat_map-cons extracts s (t ∷ w.rest))) (behind (extracts s) (flat_map extracts (t ∷ w.rest)) w.holds);
  }

  walk_front : (Q : List ℕ → Type 0) → ((xs ys : List ℕ) → Q ys → Q (xs ++ ys)) → (c s : ℕ) → WalkTo g c s → WalksFrom next extracts c Q → WalksFrom next extracts s Q
  walk_front Q behind c s (Edge e edge) w = one_on Q behind s c (of_edge s c edge) w
  walk_front Q behind c s (Onward e d edge rest) w = one_on Q behind s d (of_edge s d edge) (walk_front Q behind c d rest w)

  reach_front : (Q : List ℕ → Type 0) → ((xs ys : List ℕ) → Q ys → Q (xs ++ ys)) → (c s : ℕ) → Reaches g s c → WalksFrom next extracts c Q → WalksFrom next extracts s Q
  reach_front Q behind c s reach w =
      ⊎_elim
      (λ e. subst (λ (z : ℕ). WalksFrom next extracts z Q) (sym e) w)
      (λ walk. walk_front Q behind c s walk w)
      reach

  alone : (Q : List ℕ → Type 0) → ((xs ys : List ℕ) → Q xs → Q (xs ++ ys)) → (a : ℕ) → Q (extracts a) → WalksFrom next extracts a Q
  alone Q front a q = record {
    rest = [];
    walks = tt;
    holds = subst Q (sym (flat_map-cons extracts a [])) (front (extracts a) [] q);
  }

  pub found_walk : (x s : ℕ) → IsFound g labels s x → WalksFrom next extracts s (λ xs. Among x xs)
  found_walk x s found =
      reach_front (λ xs. Among x xs) (λ xs ys i. among_behind xs ys x i) found.0 s found.1
      (alone (λ xs. Among x xs) (λ xs ys i. among_front xs ys x i) found.0 (subst (λ (xs : List ℕ). Among x xs) (extracts_are found.0) found.2))

  pair_walk : (x y a b : ℕ) → Walk g a b → Among x (labels_of labels a) → Among y (labels_of labels b) → WalksFrom next extracts a (λ xs. Precedes x y xs)
  pair_walk x y a b walk i j =
      let f = first_edge g b a walk in
      let w = found_walk y f.0 (b, f.2, j) in
      record {
        rest = f.0 ∷ w.rest;
        walks = (of_edge a f.0 f.1, w.walks);
        holds =
            subst (λ (xs : List ℕ). Precedes x y xs) (sym (flat_map-cons extracts a (f.0 ∷ w.rest)))
            (precedes_across (extracts a) (flat_map extracts (f.0 ∷ w.rest)) x y (subst (λ (xs : List ℕ). Among x xs) (extracts_are a) i) w.holds);
      }

  pub before_walk : (x y s : ℕ) → ComesBefore g labels s x y → WalksFrom next extracts s (λ xs. Precedes x y xs)
  before_walk x y s before =
      reach_front (λ xs. Precedes x y xs) (λ xs ys p. precedes_behind xs ys x y p) before.0 s before.1
      (⊎_elim
      (λ p. alone (λ xs. Precedes x y xs) (λ xs ys q. precedes_front xs ys x y q) before.0 (subst (λ (xs : List ℕ). Precedes x y xs) (extracts_are before.0) p))
      (λ on. pair_walk x y before.0 on.0 on.1 on.2 on.3)
      before.2)
