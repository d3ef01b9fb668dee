use Rattle.std.proofs.Common.{arith}
use Rattle.digraph.proofs.Walking.{edge_within, first_edge}
use Rattle.digraph.proofs.condensation.Components.least_on_cycle.Goals as goal

pub returns : goal.returns
returns c a cycle =
    let f = first_edge c.args.graph.now a a cycle in
    let lt = edge_within c.args.graph.now a f.0 f.1 in
    c.loop-node.invariant a (omega (arith, lt, c.loop-node-test.false, c.len-node-end.ensures)) cycle
