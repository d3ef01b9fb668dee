use Rattle.lower_laws_parser.proofs.ParserBlock as laws
use Rattle.lower_laws_parser.proofs.parsers_end.Goals as goal

pub returns : goal.returns
returns c = laws.parser_ends
