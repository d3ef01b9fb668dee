use Rattle.std.proofs.Common.{List, ℕ, Bool, length, ap, sym, subst, arith}
use Rattle.least_order.specs.internal.Constraints.{IsConstrained}
use Rattle.least_order.proofs.Ordering.{answer_same, closed_whole, least_of_labels, none_of_labels}
use Rattle.least_order.proofs.order.least_order.Goals as goal

pub order_nodes-requires-clause-closed : goal.order_nodes-requires-clause-closed
order_nodes-requires-clause-closed c =
    closed_whole c.args.graph.now c.args.labels.now c.args.start c.in_ok-constraints.constraints.is_found.items c.in_ok-whole.whole
    (subst (λ (w : List (List ℕ)). IsConstrained c.args.graph.now c.args.labels.now c.args.start c.in_ok-constraints.constraints.is_found.items w) (sym c.in_ok-whole.ensures) c.in_ok-constraints.ensures)
    c.requires.closed

pub order_nodes-requires-clause-each : goal.order_nodes-requires-clause-each
order_nodes-requires-clause-each c =
    let found = ap length c.as_slice.ensures.value in
    let same = ap length c.in_ok-whole.ensures in
    omega (arith, found, same, c.in_ok-constraints.ensures.found_each)

pub returns : goal.returns
returns c =
    let k =
    subst (λ (w : List (List ℕ)). IsConstrained c.args.graph.now c.args.labels.now c.args.start c.as_slice.result.now w) (sym c.in_ok-whole.ensures)
    (subst (λ (found : List Bool). IsConstrained c.args.graph.now c.args.labels.now c.args.start found c.in_ok-constraints.constraints.successors) (sym c.as_slice.ensures.value) c.in_ok-constraints.ensures) in
    answer_same c.in_ok-found.found _ _ _ _
    (λ none. none_of_labels c.args.graph.now c.args.labels.now c.args.start c.as_slice.result.now c.in_ok-whole.whole k none)
    (λ order least. least_of_labels c.args.graph.now c.args.labels.now c.args.start c.as_slice.result.now c.in_ok-whole.whole k order.items least)
    c.in_ok-found.ensures
