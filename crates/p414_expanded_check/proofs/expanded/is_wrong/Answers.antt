use Rattle.p414_action_check.proofs.Answering.{closed_by}
use Rattle.p414_expanded_check.proofs.Answering.{order_is}
use Rattle.p414_expanded_check.proofs.expanded.is_wrong.Goals as goal

pub of-requires : goal.of-requires
of-requires c = closed_by c.args.names.now c.in_ok-graph.graph c.in_ok-graph.ensures

pub is_wrong_in_order-requires-clause-order : goal.is_wrong_in_order-requires-clause-order
is_wrong_in_order-requires-clause-order c = order_is c.args.names.now c.in_ok-graph.graph c.in_ok-components.components c.order.result.now c.in_ok-graph.ensures c.in_ok-components.ensures c.requires.actions c.order.ensures
