-- Walks between components are walks between their nodes.
use Rattle.std.proofs.Common.{◌≡◌, ℕ, ◌<◌, inl, inr, ⊎_elim, Bool, List, Option, get_or, length, refl, sym, ap, ◌∙◌, subst, arith}
use Rattle.std.proofs.lemmas.Bool.{cases_eq}
use Rattle.digraph.specs.Graphs.{IsEdge, IsClosed, Reaches, Walk, WalkTo, Edge, Onward}
use Rattle.digraph.specs.Components.{Condensation, AreComponents}
use Rattle.digraph.proofs.Walking.{walk_on, reaches_on, edge_on, edge_within}
use Rattle.least_order.specs.internal.Listing.{mark_of, IsMark, MarkReaches, IsMarked}
use Rattle.least_order.specs.internal.Quotients.{IsQuotient, IsListed, AreMarks}
use Rattle.least_order.proofs.Underway.{some_is}

module _ (g : List (List ℕ)) (c : Condensation) (q : List (List ℕ)) (closed_g : IsClosed g) (h : AreComponents g c) (is_q : IsQuotient g c q) where
  -- nodes of one component reach each other
  together : (u v : ℕ) → u < length g → v < length g → get_or c.numbers u 0 ≡ get_or c.numbers v 0 → Reaches g u v
  together u v lt less e = ((h.same u v lt less).0 e).0

  reach_walk : (u v w : ℕ) → Reaches g u v → Walk g v w → Walk g u w
  reach_walk u v w (inl e) walk = subst (λ z. Walk g z w) (sym e) walk
  reach_walk u v w (inr first) walk = walk_on g v w u first walk

  crossing : (a b u v : ℕ) → IsEdge q a b → u < length g → v < length g → get_or c.numbers u 0 ≡ a → get_or c.numbers v 0 ≡ b → Walk g u v
  crossing a b u v edge lt less eu ev =
      let x = ((is_q.edges a b).0 edge).1 in
      let from = edge_within g x.0 x.1 x.2 in
      let to = closed_g.within x.0 x.1 x.2 in
      reach_walk u x.0 v (together u x.0 lt from (eu ∙ sym x.3)) (edge_on g x.0 x.1 v x.2 (together x.1 v to less (x.4 ∙ sym ev)))

  pub walk_down : (b a u v : ℕ) → WalkTo q b a → u < length g → v < length g → get_or c.numbers u 0 ≡ a → get_or c.numbers v 0 ≡ b → Walk g u v
  walk_down b a u v (Edge e edge) lt less eu ev = crossing a b u v edge lt less eu ev
  walk_down b a u v (Onward e d edge rest) lt less eu ev =
      let x = ((is_q.edges a d).0 edge).1 in
      let to = closed_g.within x.0 x.1 x.2 in
      walk_on g x.1 v u (crossing a d u x.1 edge lt to eu x.4) (walk_down b d x.1 v rest to less x.4 ev)

  -- an edge stays in its component or leads to another one
  edge_up : (u v : ℕ) → IsEdge g u v → Reaches q (get_or c.numbers u 0) (get_or c.numbers v 0)
  edge_up u v edge =
      ⊎_elim
      (λ same. inl same)
      (λ differs. inr (Edge (get_or c.numbers u 0) ((is_q.edges (get_or c.numbers u 0) (get_or c.numbers v 0)).1 (differs, (u, v, edge, refl, refl)))))
      (cases_eq (get_or c.numbers u 0) (get_or c.numbers v 0))

  pub walk_up : (v u : ℕ) → WalkTo g v u → Reaches q (get_or c.numbers u 0) (get_or c.numbers v 0)
  walk_up v u (Edge e edge) = edge_up u v edge
  walk_up v u (Onward e d edge rest) =
      reaches_on q (get_or c.numbers u 0) (get_or c.numbers d 0) (get_or c.numbers v 0) (edge_up u d edge) (walk_up v d rest)

  module _ (listed : List Bool) (marks : List (Option ℕ)) (m : AreMarks c listed marks) (within : (x : ℕ) → IsListed listed x → x < length g) where
    pub are_marked : IsMarked q marks c.numbers
    are_marked = record {
      falls = λ a b edge.
          let differs = ((is_q.edges a b).0 edge).0 in
          let x = ((is_q.edges a b).0 edge).1 in
          let le = h.falls x.0 x.1 x.2 in
          let ea = x.3 in
          let eb = x.4 in
          ⊎_elim (λ e. absurd (differs (sym e))) (λ apart. omega (arith, le, ea, eb, apart)) (cases_eq b a);
      each = m.each ∙ sym is_q.each;
      home = λ b x e. let k = m.mark b x e in let lt = within x k.0 in let each = h.each in (omega (arith, lt, each), k.1);
    }

    pub mark_listed : (x : ℕ) → IsMark q marks x → IsListed listed x
    mark_listed x one = (m.mark one.0 x one.2).0

    pub listed_mark : (x : ℕ) → IsListed listed x → IsMark q marks x
    listed_mark x is = let below = h.below x (within x is) in let each = is_q.each in (get_or c.numbers x 0, omega (arith, below, each), m.known x is)

    pub reaches_walk : (x y : ℕ) → MarkReaches q marks x y → Walk g x y
    reaches_walk x y r =
        let a = m.mark r.0 x r.2 in
        let b = m.mark r.1 y r.3 in
        walk_down r.1 r.0 x y r.4 (within x a.0) (within y b.0) a.1 b.1

    pub walk_reaches : (x y : ℕ) → IsListed listed x → IsListed listed y → (x ≡ y → ⊥) → Walk g x y → MarkReaches q marks x y
    walk_reaches x y is_x is_y differs walk =
        ⊎_elim
        (λ same. absurd (differs (some_is x y (sym (m.known x is_x) ∙ (ap (λ k. mark_of marks k) same ∙ m.known y is_y)))))
        (λ on. (get_or c.numbers x 0, get_or c.numbers y 0, m.known x is_x, m.known y is_y, on))
        (walk_up y x walk)
