use Rattle.v1_program_laws.proofs.ParserLaws.{parser_keeps_rules}
use Rattle.v1_program_laws.proofs.parsers_keep_the_rules.Goals as goal

pub returns : goal.returns
returns c = parser_keeps_rules
