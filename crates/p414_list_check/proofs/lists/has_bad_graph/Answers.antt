use Rattle.p414_list_check.proofs.Answering.{closed_by}
use Rattle.p414_list_check.proofs.lists.has_bad_graph.Goals as goal

pub of-requires : goal.of-requires
of-requires c = closed_by c.args.names.now c.in_ok-graph.graph c.in_ok-graph.ensures
