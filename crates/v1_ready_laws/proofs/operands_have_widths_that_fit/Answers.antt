use Rattle.v1_ready_laws.proofs.Judged.{operands_always_fit}
use Rattle.v1_ready_laws.proofs.operands_have_widths_that_fit.Goals as goal

pub returns : goal.returns
returns c = operands_always_fit
