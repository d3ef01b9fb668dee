use Rattle.v1_control_laws.proofs.Plain.{scopes_plain}
use Rattle.v1_control_laws.proofs.scopes_name_plain_kinds.Goals as goal

pub returns : goal.returns
returns c = scopes_plain
