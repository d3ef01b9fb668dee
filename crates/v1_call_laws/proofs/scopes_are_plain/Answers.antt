use Rattle.v1_call_laws.proofs.Plain.{scopes_are_plain}
use Rattle.v1_call_laws.proofs.scopes_are_plain.Goals as goal

pub returns : goal.returns
returns c = scopes_are_plain
