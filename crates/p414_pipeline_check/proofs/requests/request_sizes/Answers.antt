use Rattle.p414_pipeline_check.proofs.Answering.{closed_by, no_sizes}
use Rattle.p414_pipeline_check.proofs.requests.request_sizes.Goals as goal

pub sizes-requires-clause-closed : goal.sizes-requires-clause-closed
sizes-requires-clause-closed c = closed_by c.args.names.now c.args.graph.now c.requires.graph

pub returns-in-None : goal.returns-in-None
returns-in-None c = no_sizes c.args.names.now c.args.graph.now c.args.own.now c.in_ok-sizes.field-0 _ c.requires.graph c.requires.acyclic c.in_ok-sizes.ensures (cc c.in-None.is)
