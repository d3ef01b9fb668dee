use Rattle.agreement_of_meanings.proofs.Applied.{application_alike}
use Rattle.agreement_of_meanings.proofs.tables_apply_alike.Goals as goal

pub returns : goal.returns
returns c = application_alike
