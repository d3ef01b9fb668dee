use Rattle.v1_ready_laws.proofs.Accepted.{accepted_narrow}
use Rattle.v1_ready_laws.proofs.accepted_programs_are_narrow.Goals as goal

pub returns : goal.returns
returns c = accepted_narrow
