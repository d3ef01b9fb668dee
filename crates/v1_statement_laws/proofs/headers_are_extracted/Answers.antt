use Rattle.v1_statement_laws.proofs.Extracts.{headers_extracted}
use Rattle.v1_statement_laws.proofs.headers_are_extracted.Goals as goal

pub returns : goal.returns
returns c = headers_extracted
