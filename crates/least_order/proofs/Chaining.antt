-- Walks among labels are chains of labels that come before each other.
use Rattle.std.proofs.Common.{◌≡◌, ℕ, ◌+◌, ◌<◌, ◌⊎◌, inl, inr, ⊎_elim, Bool, List, [], ◌∷◌, refl, sym, subst, arith}
use Rattle.std.proofs.lemmas.Bool.{cases_eq}
use Rattle.digraph.specs.Graphs.{Among, IsEdge, Reaches, Walk, WalkTo, Edge, Onward}
use Rattle.digraph.proofs.Walking.{walk_on, reaches_on, edge_on, reaches_by_edge}
use Rattle.least_order.specs.Orders.{Precedes}
use Rattle.least_order.specs.Labelled.{labels_of, IsBefore, ComesBefore}
use Rattle.least_order.specs.internal.Constraints.{Follows, last_of, MakesEdge, AreConstraints}

-- a label is another one, or comes before it by one step or more
pub data Chain (g labels : List (List ℕ)) (start y : ℕ) : ℕ → Type 0 where
  Same : (x : ℕ) → x ≡ y → Chain g labels start y x
  Step : (x z : ℕ) → IsBefore g labels start x z → Chain g labels start y z → Chain g labels start y x

module _ (g labels : List (List ℕ)) (count start : ℕ) where
  -- labels that come one behind the other, equal or not
  step_on : (x z y : ℕ) → ComesBefore g labels start x z → Chain g labels start y z → Chain g labels start y x
  step_on x z y before chain =
      ⊎_elim
      (λ same. subst (λ w. Chain g labels start y w) (sym same) chain)
      (λ differs. Step x z (differs, before) chain)
      (cases_eq x z)

  pub follows_label : (node : ℕ) (xs : List ℕ) (u v : ℕ) → Follows node xs u v → Among v xs
  follows_label node [] u v f = absurd f
  follows_label node (x ∷ xs) u v (inl f) = inl f.1
  follows_label node (x ∷ xs) u v (inr f) = inr (follows_label x xs u v f)

  follows_node : (node : ℕ) (xs : List ℕ) (u v : ℕ) → Follows node xs u v → (u ≡ node) ⊎ Precedes u v xs
  follows_node node [] u v f = absurd f
  follows_node node (x ∷ xs) u v (inl f) = inl f.0
  follows_node node (x ∷ xs) u v (inr f) =
      ⊎_elim (λ e. inr (inl (e, follows_label x xs u v f))) (λ p. inr (inr p)) (follows_node x xs u v f)

  last_label : (node : ℕ) (xs : List ℕ) → (last_of node xs ≡ node) ⊎ Among (last_of node xs) xs
  last_label node [] = inl refl
  last_label node (x ∷ xs) = ⊎_elim (λ e. inr (inl e)) (λ i. inr (inr i)) (last_label x xs)

  front_among : (u v : ℕ) (xs : List ℕ) → Precedes u v xs → Among u xs
  front_among u v [] p = absurd p
  front_among u v (x ∷ xs) (inl p) = inl p.0
  front_among u v (x ∷ xs) (inr p) = inr (front_among u v xs p)

  -- what leads to label y: a label by a chain, and a node by a label of a node that it reaches
  record Comes (y u : ℕ) : Type 0 where
    as_label : u < count → Chain g labels start y u
    as_node : (a : ℕ) → u ≡ count + a → (b : ℕ) × Reaches g a b × ((x : ℕ) × Among x (labels_of labels b) × Chain g labels start y x)

  module _ (below : (a x : ℕ) → Among x (labels_of labels a) → x < count) where
    to_label : (u v y a : ℕ) → Reaches g start a → Follows (count + a) (labels_of labels a) u v → Chain g labels start y v → Comes y u
    to_label u v y a reach f chain =
        let i = follows_label (count + a) (labels_of labels a) u v f in
        ⊎_elim
        (λ e. record {
          as_label = λ lt. absurd (omega (arith, lt, e));
          as_node = λ b same. (b, inl refl, (v, subst (λ z. Among v (labels_of labels z)) (let eq : a ≡ b = omega (arith, e, same) in eq) i, chain));
        })
        (λ p. record {
          as_label = λ lt. step_on u v y (a, reach, inl p) chain;
          as_node = λ b same. absurd (let lt = below a u (front_among u v (labels_of labels a) p) in omega (arith, lt, same));
        })
        (follows_node (count + a) (labels_of labels a) u v f)

    to_node : (u y a b d w : ℕ) → Reaches g start a → IsEdge g a b → u ≡ last_of (count + a) (labels_of labels a) → Reaches g b d → Among w (labels_of labels d) → Chain g labels start y w → Comes y u
    to_node u y a b d w reach edge is on i chain =
        ⊎_elim
        (λ e. record {
          as_label = λ lt. absurd (omega (arith, lt, is, e));
          as_node = λ k same. (d, subst (λ z. Reaches g z d) (let eq : a ≡ k = omega (arith, is, e, same) in eq) (inr (edge_on g a b d edge on)), (w, i, chain));
        })
        (λ j.
        let has : Among u (labels_of labels a) = subst (λ z. Among z (labels_of labels a)) (sym is) j in
        record {
          as_label = λ lt. step_on u w y (a, reach, inr (d, edge_on g a b d edge on, has, i)) chain;
          as_node = λ k same. absurd (let lt = below a u has in omega (arith, lt, same));
        })
        (last_label (count + a) (labels_of labels a))

    comes_by_edge : (u v y a : ℕ) → y < count → Reaches g start a → MakesEdge g labels count a u v → (v ≡ y) ⊎ Comes y v → Comes y u
    comes_by_edge u v y a lt reach (inl f) on =
        to_label u v y a reach f (⊎_elim (λ e. Same v e) (λ h. h.as_label (below a v (follows_label (count + a) (labels_of labels a) u v f))) on)
    comes_by_edge u v y a lt reach (inr e) on =
        ⊎_elim
        (λ same. absurd (let is = e.3 in omega (arith, same, is, lt)))
        (λ h. let n = h.as_node e.0 e.3 in to_node u y a e.0 n.0 n.2.0 reach e.1 e.2 n.1 n.2.1 n.2.2)
        on

    module _ (listed : List Bool) (whole : List (List ℕ)) (c : AreConstraints g labels count start listed whole) where
      comes : (y u : ℕ) → WalkTo whole y u → y < count → Comes y u
      comes y u (Edge e edge) lt = let m = (c.edges u y).0 edge in comes_by_edge u y y m.0 lt m.1 m.2 (inl refl)
      comes y u (Onward e d edge rest) lt = let m = (c.edges u d).0 edge in comes_by_edge u d y m.0 lt m.1 m.2 (inr (comes y d rest lt))

      pub chain_of : (x y : ℕ) → Walk whole x y → x < count → y < count → Chain g labels start y x
      chain_of x y walk lt less = (comes y x walk less).as_label lt

      -- and back
      to_one : (node : ℕ) (xs : List ℕ) (x : ℕ) → ((u v : ℕ) → Follows node xs u v → IsEdge whole u v) → Among x xs → Walk whole node x
      to_one node [] x edges i = absurd i
      to_one node (z ∷ xs) x edges (inl e) = subst (λ w. Walk whole node w) (sym e) (Edge node (edges node z (inl (refl, refl))))
      to_one node (z ∷ xs) x edges (inr i) = Onward node z (edges node z (inl (refl, refl))) (to_one z xs x (λ u v f. edges u v (inr f)) i)

      to_last : (node : ℕ) (xs : List ℕ) → ((u v : ℕ) → Follows node xs u v → IsEdge whole u v) → Reaches whole node (last_of node xs)
      to_last node [] edges = inl refl
      to_last node (z ∷ xs) edges = inr (edge_on whole node z (last_of z xs) (edges node z (inl (refl, refl))) (to_last z xs (λ u v f. edges u v (inr f))))

      one_to_last : (node : ℕ) (xs : List ℕ) (x : ℕ) → ((u v : ℕ) → Follows node xs u v → IsEdge whole u v) → Among x xs → Reaches whole x (last_of node xs)
      one_to_last node [] x edges i = absurd i
      one_to_last node (z ∷ xs) x edges (inl e) = subst (λ w. Reaches whole w (last_of z xs)) (sym e) (to_last z xs (λ u v f. edges u v (inr f)))
      one_to_last node (z ∷ xs) x edges (inr i) = one_to_last z xs x (λ u v f. edges u v (inr f)) i

      one_to_next : (node : ℕ) (xs : List ℕ) (x y : ℕ) → ((u v : ℕ) → Follows node xs u v → IsEdge whole u v) → Precedes x y xs → Walk whole x y
      one_to_next node [] x y edges p = absurd p
      one_to_next node (z ∷ xs) x y edges (inl p) = subst (λ w. Walk whole w y) (sym p.0) (to_one z xs y (λ u v f. edges u v (inr f)) p.1)
      one_to_next node (z ∷ xs) x y edges (inr p) = one_to_next z xs x y (λ u v f. edges u v (inr f)) p

      makes : (a : ℕ) → Reaches g start a → (u v : ℕ) → Follows (count + a) (labels_of labels a) u v → IsEdge whole u v
      makes a reach u v f = (c.edges u v).1 (a, reach, inl f)

      leads : (a b : ℕ) → Reaches g start a → IsEdge g a b → IsEdge whole (last_of (count + a) (labels_of labels a)) (count + b)
      leads a b reach edge = (c.edges (last_of (count + a) (labels_of labels a)) (count + b)).1 (a, reach, inr (b, edge, refl, refl))

      reach_walk : (u v w : ℕ) → Reaches whole u v → Walk whole v w → Walk whole u w
      reach_walk u v w (inl e) walk = subst (λ z. Walk whole z w) (sym e) walk
      reach_walk u v w (inr first) walk = walk_on whole v w u first walk

      node_walk : (b a : ℕ) → WalkTo g b a → Reaches g start a → Walk whole (last_of (count + a) (labels_of labels a)) (count + b)
      node_walk b a (Edge e edge) reach = Edge (last_of (count + a) (labels_of labels a)) (leads a b reach edge)
      node_walk b a (Onward e d edge rest) reach =
          let on = reaches_on g start a d reach (reaches_by_edge g a d edge) in
          Onward (last_of (count + a) (labels_of labels a)) (count + d) (leads a d reach edge)
          (reach_walk (count + d) (last_of (count + d) (labels_of labels d)) (count + b) (to_last (count + d) (labels_of labels d) (makes d on)) (node_walk b d rest on))

      pub before_walks : (x y : ℕ) → ComesBefore g labels start x y → Walk whole x y
      before_walks x y h =
          ⊎_elim
          (λ p. one_to_next (count + h.0) (labels_of labels h.0) x y (makes h.0 h.1) p)
          (λ on.
          let reach = reaches_on g start h.0 on.0 h.1 (inr on.1) in
          reach_walk x (last_of (count + h.0) (labels_of labels h.0)) y (one_to_last (count + h.0) (labels_of labels h.0) x (makes h.0 h.1) on.2)
          (walk_on whole (count + on.0) y (last_of (count + h.0) (labels_of labels h.0)) (node_walk on.0 h.0 on.1 h.1) (to_one (count + on.0) (labels_of labels on.0) y (makes on.0 reach) on.3)))
          h.2
