use Rattle.v1_program_laws.proofs.ParserLaws.{parser_leaves}
use Rattle.v1_program_laws.proofs.parser_statements_do_the_same.Goals as goal

pub returns : goal.returns
returns c = parser_leaves
