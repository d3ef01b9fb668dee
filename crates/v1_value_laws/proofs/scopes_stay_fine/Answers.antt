use Rattle.v1_value_laws.proofs.Scopes.{behind_is_fine}
use Rattle.v1_value_laws.proofs.scopes_stay_fine.Goals as goal

pub returns : goal.returns
returns c = behind_is_fine
