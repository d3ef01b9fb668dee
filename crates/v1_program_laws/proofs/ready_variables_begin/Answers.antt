use Rattle.v1_program_laws.proofs.ParserLaws.{ready_variables_begin}
use Rattle.v1_program_laws.proofs.ready_variables_begin.Goals as goal

pub returns : goal.returns
returns c = ready_variables_begin
