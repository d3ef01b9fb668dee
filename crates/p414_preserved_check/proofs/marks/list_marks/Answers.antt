use Rattle.p414_preserved_check.proofs.Marking.{closed_by}
use Rattle.p414_preserved_check.proofs.marks.list_marks.Goals as goal

pub of-requires : goal.of-requires
of-requires c = closed_by c.args.names.now c.in_ok-graph.graph c.in_ok-graph.ensures
