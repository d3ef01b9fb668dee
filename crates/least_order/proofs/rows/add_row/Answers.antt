use Rattle.least_order.proofs.Edges.{row_added}
use Rattle.least_order.proofs.rows.add_row.Goals as goal

pub returns : goal.returns
returns c = row_added c.add_edges.result c.args.graph.now c.add_node.new.self c.add_edges.new.graph c.args.targets.now c.in_ok-add_node.ensures.ok c.add_edges.ensures
