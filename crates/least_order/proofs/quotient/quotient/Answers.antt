use Rattle.std.proofs.Common.{◌∙◌, [], replicate, subst, arith}
use Rattle.digraph.specs.Graphs.{Among}
use Rattle.least_order.proofs.Parting.{quotient_more, is_quotient}
use Rattle.least_order.proofs.quotient.quotient.Goals as goal

pub add_edges-requires-clause-targets : goal.add_edges-requires-clause-targets
add_edges-requires-clause-targets c v i =
    let lt = c.requires.closed.within c.loop-node.node v (subst (λ xs. Among v xs) c.successors.ensures i) in
    omega (arith, lt, c.requires.components.each)

pub loop-node-preserved : goal.loop-node-preserved
loop-node-preserved c = record {
  each = c.in_ok-add_edges.ensures.len ∙ c.loop-node.invariant.each;
  edges =
      quotient_more c.args.graph.now c.args.components.now.numbers c.loop-node.node c.number.result c.successors.result.now (replicate c.args.components.now.count []) c.loop-node.edges c.add_edges.new.edges
      c.number.ensures c.successors.ensures c.loop-node.invariant.edges c.in_ok-add_edges.ensures.edges;
}

pub returns : goal.returns
returns c = is_quotient c.args.graph.now c.args.components.now c.loop-node.node c.loop-node.edges (omega (arith, c.loop-node-test.false, c.len-node-end.ensures)) c.loop-node.invariant.each c.loop-node.invariant.edges
