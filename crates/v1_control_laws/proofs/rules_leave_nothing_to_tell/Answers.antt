use Rattle.v1_control_laws.proofs.Answering.{rules_tell_none}
use Rattle.v1_control_laws.proofs.rules_leave_nothing_to_tell.Goals as goal

pub returns : goal.returns
returns c = rules_tell_none
