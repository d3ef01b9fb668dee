use Rattle.v1_call_laws.proofs.Laws.{calls_fit}
use Rattle.v1_call_laws.proofs.calls_fit_rules.Goals as goal

pub returns : goal.returns
returns c = calls_fit
