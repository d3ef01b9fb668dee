use Rattle.v1_statement_laws.proofs.Calls.{headers_called}
use Rattle.v1_statement_laws.proofs.headers_are_called.Goals as goal

pub returns : goal.returns
returns c = headers_called
