use Rattle.name_cycles.proofs.Edges.{edges_now}
use Rattle.name_cycles.proofs.cycles.add_edges.Goals as goal

pub loop-target-preserved : goal.loop-target-preserved
loop-target-preserved c = edges_now (λ target. target.now) c.args.names.now c.args.targets.now c.loop-target.target-index _ _ _ _ c.loop-target-test.true c.in_ok-add_edge.ensures c.loop-target.invariant
