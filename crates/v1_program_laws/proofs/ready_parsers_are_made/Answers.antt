use Rattle.v1_program_laws.proofs.Parsers.{ready_parser_is_made}
use Rattle.v1_program_laws.proofs.ready_parsers_are_made.Goals as goal

pub returns : goal.returns
returns c = ready_parser_is_made
