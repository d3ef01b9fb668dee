use Rattle.v1_call_laws.proofs.Standing.{control_stands}
use Rattle.v1_call_laws.proofs.controls_stand.Goals as goal

pub returns : goal.returns
returns c = control_stands
