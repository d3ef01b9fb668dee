use Rattle.v1_call_laws.proofs.Laws.{actions_called}
use Rattle.v1_call_laws.proofs.actions_are_called.Goals as goal

pub returns : goal.returns
returns c = actions_called
