-- The least order of the found labels as nodes is their least order as labels.
use Rattle.std.proofs.Common.{ℕ, ◌+◌, ◌<◌, inr, ⊎_elim, Bool, List, Option, Some, None, arith}
use Rattle.std.specs.Prelude.{MatchOption}
use Rattle.digraph.specs.Graphs.{IsClosed}
use Rattle.digraph.proofs.Walking.{reaches_on}
use Rattle.least_order.specs.Orders.{IsOrder, IsLeastOrder, HasNoOrder}
use Rattle.least_order.specs.Labelled.{labels_of, IsFound, IsBefore}
use Rattle.least_order.specs.internal.Quotients.{IsListed, IsAhead}
use Rattle.least_order.specs.internal.Constraints.{IsConstrained}
use Rattle.least_order.proofs.Transfer.{front_is, behind_is, keeps_chain, same_least}
use Rattle.least_order.proofs.Chaining.{follows_label, chain_of, before_walks}

-- an answer that says so says this
pub answer_same : {V : Type 0} (found : Option V) (A B : Type 0) (P Q : V → Type 0) → (A → B) → ((v : V) → P v → Q v) → MatchOption found A P → MatchOption found B Q
answer_same None A B P Q none some h = none h
answer_same (Some v) A B P Q none some h = some v h

module _ (g labels : List (List ℕ)) (start : ℕ) (listed : List Bool) (whole : List (List ℕ)) (k : IsConstrained g labels start listed whole) where
  pub closed_whole : IsClosed g → IsClosed whole
  closed_whole closed = record {
    within = λ u v edge.
        let made = (k.are.edges u v).0 edge in
        let each = k.are.each in
        ⊎_elim
        (λ f. let lt = k.below made.0 v (follows_label g labels k.count start (k.count + made.0) (labels_of labels made.0) u v f) in omega (arith, lt, each))
        (λ on. let is = on.3 in let lt = closed.within made.0 on.0 on.1 in omega (arith, is, lt, each))
        made.2;
  }

  found_below : (x : ℕ) → IsFound g labels start x → x < k.count
  found_below x found = k.below found.0 x found.2

  -- what stands behind a label on a walk is found
  second_found : (x y : ℕ) → IsBefore g labels start x y → IsFound g labels start y
  second_found x y before =
      ⊎_elim
      (λ p. (before.1.0, before.1.1, behind_is x y (labels_of labels before.1.0) p))
      (λ on. (on.0, reaches_on g start before.1.0 on.0 before.1.1 (inr on.1), on.3))
      before.1.2

  to_labels : (order : List ℕ) → IsOrder (IsListed listed) (IsAhead whole) order → IsOrder (IsFound g labels start) (IsBefore g labels start) order
  to_labels order h = record {
    each = λ x. (λ among. (k.are.found x).0 ((h.each x).0 among), λ found. (h.each x).1 ((k.are.found x).1 found));
    once = h.once;
    keeps = λ x y before p. h.keeps x y (before.0, before_walks g labels k.count start k.below listed whole k.are x y before.1) p;
  }

  of_labels : (order : List ℕ) → IsOrder (IsFound g labels start) (IsBefore g labels start) order → IsOrder (IsListed listed) (IsAhead whole) order
  of_labels order h = record {
    each = λ x. (λ among. (k.are.found x).1 ((h.each x).0 among), λ is. (h.each x).1 ((k.are.found x).0 is));
    once = h.once;
    keeps = λ x y ahead p.
        let lt = found_below x ((h.each x).0 (behind_is y x order p)) in
        let less = found_below y ((h.each y).0 (front_is y x order p)) in
        keeps_chain g labels start order y x h second_found (chain_of g labels k.count start k.below listed whole k.are x y ahead.1 lt less) p;
  }

  pub least_of_labels : (order : List ℕ) → IsLeastOrder (IsListed listed) (IsAhead whole) order → IsLeastOrder (IsFound g labels start) (IsBefore g labels start) order
  least_of_labels order h = same_least (IsListed listed) (IsFound g labels start) (IsAhead whole) (IsBefore g labels start) order to_labels of_labels h

  pub none_of_labels : HasNoOrder (IsListed listed) (IsAhead whole) → HasNoOrder (IsFound g labels start) (IsBefore g labels start)
  none_of_labels none order h = none order (of_labels order h)
