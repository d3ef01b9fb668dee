use Rattle.v1_control_laws.proofs.Handed.{parameters_handed}
use Rattle.v1_control_laws.proofs.parameters_are_handed.Goals as goal

pub returns : goal.returns
returns c = parameters_handed
