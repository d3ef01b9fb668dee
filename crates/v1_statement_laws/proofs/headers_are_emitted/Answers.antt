use Rattle.v1_statement_laws.proofs.Emits.{headers_emitted}
use Rattle.v1_statement_laws.proofs.headers_are_emitted.Goals as goal

pub returns : goal.returns
returns c = headers_emitted
