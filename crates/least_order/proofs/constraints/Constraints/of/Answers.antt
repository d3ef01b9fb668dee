use Rattle.std.proofs.Common.{rules, ◌≡◌, ◌∙◌, ◌+◌, ℕ, List, false, [], replicate, length, ap, arith}
use Rattle.least_order.proofs.Building.{some_sum, made_none, are_constraints}
use Rattle.least_order.proofs.constraints.Constraints.of.Goals as goal

pub loop-node-init : goal.loop-node-init
loop-node-init c =
    let sum = some_sum c.checked_add.result c.args.count c.len.result c.in_ok-len.len c.checked_add.ensures c.in_ok-len.ensures.ok_part in
    let same : c.in_ok-len.len ≡ c.args.count + length c.args.edges.now = omega (arith, sum.1, c.len.ensures) in
    made_none c.args.edges.now c.args.labels.now c.args.count c.args.reached.now c.in_ok-is_found.is_found.items c.in_ok-successors.successors
    (let made : c.in_ok-is_found.is_found.items ≡ replicate c.in_ok-len.len false = search rules in made ∙ ap (λ (n : ℕ). replicate n false) same) (c.in_ok-successors.ensures ∙ ap (λ (n : ℕ). replicate {A = List ℕ} n []) same)

pub add_node-requires-clause-fits : goal.add_node-requires-clause-fits
add_node-requires-clause-fits c =
    let sum = some_sum c.checked_add.result c.args.count c.len.result c.in_ok-len.len c.checked_add.ensures c.in_ok-len.ensures.ok_part in
    omega (arith, sum.0, c.len.ensures)

pub returns-clause-each : goal.returns-clause-each
returns-clause-each c = omega (arith, c.loop-node.invariant.each, c.loop-node.invariant.found_each)

pub returns-clause-constraints : goal.returns-clause-constraints
returns-clause-constraints c start reach =
    are_constraints c.args.edges.now c.args.labels.now c.args.count c.args.reached.now start c.loop-node.node c.loop-node.constraints.is_found.items c.loop-node.constraints.successors
    c.loop-node.invariant (omega (arith, c.loop-node-test.false, c.len-node-end.ensures)) c.requires.each c.requires.reached reach
