use Rattle.v1_value_laws.proofs.Scopes.{scopes_are_fine}
use Rattle.v1_value_laws.proofs.headers_have_bits_for_fields.Goals as goal

pub returns : goal.returns
returns c = scopes_are_fine
