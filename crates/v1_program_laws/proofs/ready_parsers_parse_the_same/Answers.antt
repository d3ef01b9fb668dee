use Rattle.v1_program_laws.proofs.Parsers.{ready_parser_shows}
use Rattle.v1_program_laws.proofs.ready_parsers_parse_the_same.Goals as goal

pub returns : goal.returns
returns c = ready_parser_shows
