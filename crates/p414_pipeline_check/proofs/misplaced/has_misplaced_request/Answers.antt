use Rattle.p414_pipeline_check.proofs.Answering.{onto}
use Rattle.p414_pipeline_check.proofs.misplaced.has_misplaced_request.Goals as goal

pub returns : goal.returns
returns c = onto c.is_some_misplaced.result c.in_ok-controls.controls c.args.names.now c.in_ok-controls.ensures c.is_some_misplaced.ensures
