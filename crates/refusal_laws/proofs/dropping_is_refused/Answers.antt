use Rattle.refusal_laws.proofs.Refused.{dropping_not}
use Rattle.refusal_laws.proofs.dropping_is_refused.Goals as goal

pub returns : goal.returns
returns c = dropping_not
