use Rattle.p414_pipeline_check.proofs.Answering.{onto}
use Rattle.p414_pipeline_check.proofs.misplaced.is_some_misplaced.Goals as goal

pub returns : goal.returns
returns c = onto c.are_misplaced.result c.names.result.now c.args.controls.now c.names.ensures c.are_misplaced.ensures
