use Rattle.v1_call_laws.proofs.Told.{rules_tell_none}
use Rattle.v1_call_laws.proofs.rules_let_nothing_be_told.Goals as goal

pub returns : goal.returns
returns c = rules_tell_none
