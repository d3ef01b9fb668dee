use Rattle.v1_call_laws.proofs.Laws.{functions_called}
use Rattle.v1_call_laws.proofs.functions_are_called.Goals as goal

pub returns : goal.returns
returns c = functions_called
