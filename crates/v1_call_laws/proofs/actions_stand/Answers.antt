use Rattle.v1_call_laws.proofs.Standing.{actions_stand}
use Rattle.v1_call_laws.proofs.actions_stand.Goals as goal

pub returns : goal.returns
returns c = actions_stand
