use Rattle.v1_parser_laws.proofs.Parsers.{made_parser_shows}
use Rattle.v1_parser_laws.proofs.ready_parsers_do_the_same.Goals as goal

pub returns : goal.returns
returns c = made_parser_shows
