use Rattle.parse_graph.proofs.Idling.{whole_at, whole_closed}
use Rattle.parse_graph.proofs.idle.idle_graph.Goals as goal

pub add_state-requires : goal.add_state-requires
add_state-requires c = whole_at c.args.states.now c.loop-state.state-index c.state-item.result c.state-item.result c.requires c.loop-state-test.true c.state-item.is

pub returns-clause-closed : goal.returns-clause-closed
returns-clause-closed c = whole_closed c.args.states.now c.loop-state.state-index c.loop-state.graph c.requires c.loop-state-test.false c.loop-state.invariant
