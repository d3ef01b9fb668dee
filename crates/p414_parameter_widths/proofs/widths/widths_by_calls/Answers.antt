use Rattle.p414_action_check.proofs.Answering.{closed_by}
use Rattle.p414_parameter_widths.proofs.widths.widths_by_calls.Goals as goal

pub of-requires : goal.of-requires
of-requires c = closed_by c.args.names.now c.in_ok-graph.graph c.in_ok-graph.ensures
