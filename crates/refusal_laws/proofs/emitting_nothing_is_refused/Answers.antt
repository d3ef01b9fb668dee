use Rattle.refusal_laws.proofs.Refused.{emitting_nothing_not}
use Rattle.refusal_laws.proofs.emitting_nothing_is_refused.Goals as goal

pub returns : goal.returns
returns c = emitting_nothing_not
