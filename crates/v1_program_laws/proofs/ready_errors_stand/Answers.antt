use Rattle.v1_program_laws.proofs.ParserLaws.{ready_error_stands}
use Rattle.v1_program_laws.proofs.ready_errors_stand.Goals as goal

pub returns : goal.returns
returns c = ready_error_stands
