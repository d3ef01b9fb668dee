use Rattle.v1_block_laws.proofs.Blocks.{parser_seated}
use Rattle.v1_block_laws.proofs.names_of_the_parser_are_seated.Goals as goal

pub returns : goal.returns
returns c = parser_seated
