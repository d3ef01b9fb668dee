use Rattle.v1_call_laws.proofs.Told.{calls_tell_none}
use Rattle.v1_call_laws.proofs.rules_let_calls_be_told_nothing.Goals as goal

pub returns : goal.returns
returns c = calls_tell_none
