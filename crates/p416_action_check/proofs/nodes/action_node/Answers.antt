use Rattle.p416_action_check.proofs.Calling.{node_is}
use Rattle.p416_scopes.specs.Seen.{seen_scope}
use Rattle.p416_action_check.proofs.nodes.action_node.Goals as goal

pub returns-clause-node : goal.returns-clause-node
returns-clause-node c = node_is (seen_scope c.args.scope.now) c.args.action.now c.in_ok-found.found _ _ _ c.in_ok-found.ensures.found c.as_slice.ensures c.called.ensures c.in_ok-node.ensures
