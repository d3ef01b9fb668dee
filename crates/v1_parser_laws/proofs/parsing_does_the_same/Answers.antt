use Rattle.v1_parser_laws.proofs.States.{parsing_shows}
use Rattle.v1_parser_laws.proofs.parsing_does_the_same.Goals as goal

pub returns : goal.returns
returns c = parsing_shows
