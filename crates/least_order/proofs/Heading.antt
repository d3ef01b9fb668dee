-- The least order of marks is the least order of the nodes that have them, and two nodes of one component have none.
use Rattle.std.proofs.Common.{◌≡◌, ℕ, ◌<◌, ⊎_elim, Bool, false, List, Option, get_or, length, sym, subst, arith}
use Rattle.std.proofs.lemmas.Bool.{cases_lt}
use Rattle.std.proofs.lemmas.List.{get_or_past}
use Rattle.digraph.specs.Graphs.{IsClosed, Walk}
use Rattle.digraph.specs.Components.{Condensation, AreComponents}
use Rattle.least_order.specs.Orders.{Precedes, IsOrder, IsLeastOrder, HasNoOrder}
use Rattle.least_order.specs.internal.Listing.{IsMark, MarkReaches, IsMarked}
use Rattle.least_order.specs.internal.Quotients.{IsQuotient, IsListed, IsAhead, AreMarks, HasPair}
use Rattle.least_order.proofs.Underway.{not_both}
use Rattle.least_order.proofs.Transfer.{front_is, behind_is, either_way, same_least}
use Rattle.least_order.proofs.Quotienting.{are_marked, mark_listed, listed_mark, reaches_walk, walk_reaches}

module _ (g : List (List ℕ)) (c : Condensation) (closed : IsClosed g) (components : AreComponents g c) (listed : List Bool) (each : length listed ≡ length g) where
  within : (x : ℕ) → IsListed listed x → x < length g
  within x is =
      ⊎_elim
      (λ lt. lt)
      (λ ge. not_both (get_or listed x false) is (get_or_past listed x false (omega (arith, ge, each))))
      (cases_lt x (length g))

  -- two listed nodes of one component
  pub pair_none : HasPair c listed → HasNoOrder (IsListed listed) (IsAhead g)
  pair_none pair order h =
      let both = (components.same pair.0 pair.1 (within pair.0 pair.3) (within pair.1 pair.4)).0 pair.5 in
      let forth : Walk g pair.0 pair.1 = ⊎_elim (λ e. absurd (pair.2 e)) (λ walk. walk) both.0 in
      let back : Walk g pair.1 pair.0 = ⊎_elim (λ e. absurd (pair.2 (sym e))) (λ walk. walk) both.1 in
      ⊎_elim
      (λ e. pair.2 e)
      (λ way.
      ⊎_elim
      (λ p. h.keeps pair.1 pair.0 ((λ e. pair.2 (sym e)), back) p)
      (λ p. h.keeps pair.0 pair.1 (pair.2, forth) p)
      way)
      (either_way pair.0 pair.1 order ((h.each pair.0).1 pair.3) ((h.each pair.1).1 pair.4))

  module _ (q : List (List ℕ)) (marks : List (Option ℕ)) (is_q : IsQuotient g c q) (m : AreMarks c listed marks) where
    pub marked : IsMarked q marks c.numbers
    marked = are_marked g c q closed components is_q listed marks m within

    from_marks : (order : List ℕ) → IsOrder (IsMark q marks) (MarkReaches q marks) order → IsOrder (IsListed listed) (IsAhead g) order
    from_marks order h = record {
      each = λ x. (
        λ among. mark_listed g c q closed components is_q listed marks m within x ((h.each x).0 among),
        λ is. (h.each x).1 (listed_mark g c q closed components is_q listed marks m within x is),
      );
      once = h.once;
      keeps = λ x y ahead p.
          let is_x = mark_listed g c q closed components is_q listed marks m within x ((h.each x).0 (behind_is y x order p)) in
          let is_y = mark_listed g c q closed components is_q listed marks m within y ((h.each y).0 (front_is y x order p)) in
          h.keeps x y (walk_reaches g c q closed components is_q listed marks m within x y is_x is_y ahead.0 ahead.1) p;
    }

    to_marks : (order : List ℕ) → IsOrder (IsListed listed) (IsAhead g) order → IsOrder (IsMark q marks) (MarkReaches q marks) order
    to_marks order h = record {
      each = λ x. (
        λ among. listed_mark g c q closed components is_q listed marks m within x ((h.each x).0 among),
        λ one. (h.each x).1 (mark_listed g c q closed components is_q listed marks m within x one),
      );
      once = h.once;
      keeps = λ x y reaches p.
          h.keeps x y ((λ e. h.once x (subst (λ (z : ℕ). Precedes z x order) (sym e) p)), reaches_walk g c q closed components is_q listed marks m within x y reaches) p;
    }

    pub least_of_nodes : (order : List ℕ) → IsLeastOrder (IsMark q marks) (MarkReaches q marks) order → IsLeastOrder (IsListed listed) (IsAhead g) order
    least_of_nodes order h = same_least (IsMark q marks) (IsListed listed) (MarkReaches q marks) (IsAhead g) order from_marks to_marks h
