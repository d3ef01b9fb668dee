use Rattle.least_order.proofs.Edges.{row_added}
use Rattle.deparse_order.proofs.lists.add_state.Goals as goal

pub returns : goal.returns
returns c = row_added c.add_edges.result c.args.graph.now c.add_node.new.self c.add_edges.new.graph c.args.state.now.next c.in_ok-add_node.ensures.ok (rw c.as_slice.ensures at c.add_edges.ensures)
