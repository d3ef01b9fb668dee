use Rattle.p414_pipeline_check.proofs.Answering.{closed_by, misplaced_by}
use Rattle.p414_pipeline_check.proofs.misplaced.reaches_misplaced.Goals as goal

pub of-requires : goal.of-requires
of-requires c = closed_by c.args.names.now c.args.graph.now c.requires.graph

pub returns : goal.returns
returns c =
    misplaced_by c.args.names.now c.args.in_ingress.now c.args.in_egress.now c.deref.result.now c.deref-2.result.now c.in_ok-of_ingress.of_ingress.items c.in_ok-of_egress.of_egress.items c.some_misplaced.result
    c.requires.ingress c.requires.egress c.in_ok-of_ingress.ensures c.in_ok-of_egress.ensures c.deref.ensures.value c.deref-2.ensures.value c.some_misplaced.ensures
