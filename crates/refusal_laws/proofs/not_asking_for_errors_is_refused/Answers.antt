use Rattle.refusal_laws.proofs.Refused.{not_asking_not}
use Rattle.refusal_laws.proofs.not_asking_for_errors_is_refused.Goals as goal

pub returns : goal.returns
returns c = not_asking_not
