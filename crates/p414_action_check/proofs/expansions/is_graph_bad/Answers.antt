use Rattle.p414_action_check.proofs.Answering.{cycle_is}
use Rattle.p414_action_check.proofs.expansions.is_graph_bad.Goals as goal

pub returns-in-None : goal.returns-in-None
returns-in-None c = cycle_is c.args.names.now _ c.in_ok-sizes.field-0 c.in_ok-sizes.ensures (cc c.in-None.is)
