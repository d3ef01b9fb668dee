use Rattle.v1_parser_laws.proofs.Begins.{error_stands}
use Rattle.v1_parser_laws.proofs.numbers_of_errors_stand.Goals as goal

pub returns : goal.returns
returns c = error_stands
