use Rattle.p414_control_check.proofs.Holding.{closed_by}
use Rattle.p414_control_check.proofs.deep.nest_too_deep.Goals as goal

pub of-requires : goal.of-requires
of-requires c = closed_by c.args.controls.now c.in_ok-graph.graph c.in_ok-graph.ensures
