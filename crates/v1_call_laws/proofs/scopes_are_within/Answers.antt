use Rattle.v1_call_laws.proofs.Declared.{scopes_within}
use Rattle.v1_call_laws.proofs.scopes_are_within.Goals as goal

pub returns : goal.returns
returns c = scopes_within
