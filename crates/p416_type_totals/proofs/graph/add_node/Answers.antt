use Rattle.p416_type_totals.proofs.Edges.{edge_now}
use Rattle.p416_type_totals.proofs.graph.add_node.Goals as goal

pub loop-target-preserved : goal.loop-target-preserved
loop-target-preserved c = edge_now c.args.graph.now c.args.targets.now c.loop-target.target-index 0 _ _ c.loop-target-test.true c.loop-target.invariant c.in_ok-add_edge.ensures.ok
