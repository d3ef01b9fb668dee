use Rattle.v1_call_laws.proofs.Whole.{calls_show}
use Rattle.v1_call_laws.proofs.calls_do_the_same.Goals as goal

pub returns : goal.returns
returns c = calls_show
