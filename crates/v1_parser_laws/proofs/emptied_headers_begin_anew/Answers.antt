use Rattle.v1_parser_laws.proofs.Begins.{emptied_headers}
use Rattle.v1_parser_laws.proofs.emptied_headers_begin_anew.Goals as goal

pub returns : goal.returns
returns c = emptied_headers
