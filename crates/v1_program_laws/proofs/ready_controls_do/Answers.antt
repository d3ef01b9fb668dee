use Rattle.v1_program_laws.proofs.Laws.{ready_controls_do}
use Rattle.v1_program_laws.proofs.ready_controls_do.Goals as goal

pub returns : goal.returns
returns c = ready_controls_do
