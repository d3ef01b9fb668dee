use Rattle.std.proofs.Common.{sym, filter}
use Rattle.parse_graph.specs.internal.IdleEdges.{extracts_none, idle_next}
use Rattle.parse_graph.proofs.Edges.{state_added}
use Rattle.parse_graph.proofs.Idling.{idle_state}
use Rattle.parse_graph.proofs.idle.add_state.Goals as goal

pub returns-then-is_empty : goal.returns-then-is_empty
returns-then-is_empty c =
    state_added c.add_edges.result c.args.graph.now c.add_node.new.self c.add_edges.new.graph (idle_next c.args.states.now c.args.state.now) (filter (extracts_none c.args.states.now) c.args.state.now.next)
    c.in_ok-add_node.ensures.ok (idle_state c.args.states.now c.args.state.now c.as_slice.result.now c.as_slice.ensures (sym c.if-is_empty.ensures)) (rw c.as_slice-then-is_empty.ensures at c.add_edges.ensures)
