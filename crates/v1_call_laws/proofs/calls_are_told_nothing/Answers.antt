use Rattle.v1_call_laws.proofs.Standing.{calls_told_none}
use Rattle.v1_call_laws.proofs.calls_are_told_nothing.Goals as goal

pub returns : goal.returns
returns c = calls_told_none
