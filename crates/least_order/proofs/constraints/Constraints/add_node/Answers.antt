use Rattle.std.proofs.Common.{◌+◌, length, subst, arith}
use Rattle.digraph.specs.Graphs.{Among}
use Rattle.least_order.proofs.Building.{made_pass, made_reached, last_within}
use Rattle.least_order.proofs.constraints.Constraints.add_node.Goals as goal

pub returns-then-not-reached-node : goal.returns-then-not-reached-node
returns-then-not-reached-node c = made_pass c.args.edges.now c.args.labels.now c.args.count c.args.reached.now c.args.node c.args.self.now.is_found.items c.args.self.now.successors c.requires.made c.if-not-reached-node.true

pub add_labels-requires-clause-node : goal.add_labels-requires-clause-node
add_labels-requires-clause-node c = omega (arith, c.requires.node, c.requires.made.each)

pub add_labels-requires-clause-labels : goal.add_labels-requires-clause-labels
add_labels-requires-clause-labels c x i =
    let lt = c.requires.below c.args.node x (subst (λ xs. Among x xs) c.labels_at.ensures i) in
    omega (arith, lt, c.requires.made.each)

pub add_labels-requires-clause-found : goal.add_labels-requires-clause-found
add_labels-requires-clause-found c = omega (arith, c.requires.made.each, c.requires.made.found_each)

pub add_edges-requires-clause-last : goal.add_edges-requires-clause-last
add_edges-requires-clause-last c =
    last_within (c.args.count + c.args.node) c.labels_at.result.now (length c.add_labels.new.self.successors) c.in_ok-last.last c.in_ok-last.ensures.last
    (omega (arith, c.requires.node, c.requires.made.each, c.in_ok-last.ensures.added.each))
    (λ x i. let lt = c.requires.below c.args.node x (subst (λ xs. Among x xs) c.labels_at.ensures i) in omega (arith, lt, c.requires.made.each, c.in_ok-last.ensures.added.each))

pub add_edges-requires-clause-fits : goal.add_edges-requires-clause-fits
add_edges-requires-clause-fits c b i =
    let lt = c.requires.closed.within c.args.node b (subst (λ xs. Among b xs) c.successors.ensures i) in
    omega (arith, lt, c.requires.fits)

pub returns : goal.returns
returns c =
    made_reached c.args.edges.now c.args.labels.now c.args.count c.args.reached.now c.args.node c.in_ok-last.last c.labels_at.result.now c.successors.result.now
    c.args.self.now.is_found.items c.add_labels.new.self.is_found.items c.args.self.now.successors c.add_labels.new.self.successors c.add_edges.new.successors
    c.if-not-reached-node.false c.labels_at.ensures c.successors.ensures c.requires.made c.in_ok-last.ensures.last c.in_ok-last.ensures.added c.in_ok-add_edges.ensures.each c.in_ok-add_edges.ensures.edges
