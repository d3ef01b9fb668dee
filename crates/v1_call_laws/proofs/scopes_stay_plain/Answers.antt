use Rattle.v1_call_laws.proofs.Plain.{behind_is_plain}
use Rattle.v1_call_laws.proofs.scopes_stay_plain.Goals as goal

pub returns : goal.returns
returns c = behind_is_plain
