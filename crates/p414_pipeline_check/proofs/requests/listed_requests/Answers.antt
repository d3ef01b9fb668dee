use Rattle.p414_pipeline_check.specs.internal.Requests.{primitives_of}
use Rattle.p414_pipeline_check.proofs.Answering.{marks_by}
use Rattle.p414_pipeline_check.proofs.requests.listed_requests.Goals as goal

pub returns : goal.returns
returns c =
    marks_by c.args.names.now (primitives_of c.args.kind) c.in_ok-sizes.sizes.items c.deref-2.result.now c.tables_with_requests.result c.in_ok-sizes.ensures c.deref-2.ensures.value c.tables_with_requests.ensures
