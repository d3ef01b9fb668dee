use Rattle.std.proofs.lemmas.Result.{IfOk-weaker}
use Rattle.p414_list_check.proofs.Answering.{closed_by, lengths_are}
use Rattle.p414_list_check.proofs.lists.list_lengths.Goals as goal

pub of-requires : goal.of-requires
of-requires c = closed_by c.args.names.now c.in_ok-graph.graph c.in_ok-graph.ensures

pub returns : goal.returns
returns c = IfOk-weaker c.list_sizes.result _ _ (lengths_are c.args.names.now) c.list_sizes.ensures
