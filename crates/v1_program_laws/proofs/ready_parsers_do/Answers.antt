use Rattle.v1_program_laws.proofs.Laws.{ready_parsers_do}
use Rattle.v1_program_laws.proofs.ready_parsers_do.Goals as goal

pub returns : goal.returns
returns c = ready_parsers_do
