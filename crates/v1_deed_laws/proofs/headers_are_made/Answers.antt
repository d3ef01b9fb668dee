use Rattle.v1_deed_laws.proofs.Headers.{headers_made}
use Rattle.v1_deed_laws.proofs.headers_are_made.Goals as goal

pub returns : goal.returns
returns c = headers_made
