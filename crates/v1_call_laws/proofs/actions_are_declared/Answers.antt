use Rattle.v1_call_laws.proofs.Declared.{actions_declared}
use Rattle.v1_call_laws.proofs.actions_are_declared.Goals as goal

pub returns : goal.returns
returns c = actions_declared
