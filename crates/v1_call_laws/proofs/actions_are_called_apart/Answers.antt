use Rattle.v1_call_laws.proofs.Laws.{actions_called_apart}
use Rattle.v1_call_laws.proofs.actions_are_called_apart.Goals as goal

pub returns : goal.returns
returns c = actions_called_apart
