use Rattle.v1_program_laws.proofs.Finished.{control_leaves_do}
use Rattle.v1_program_laws.proofs.statements_do_the_same.Goals as goal

pub returns : goal.returns
returns c = control_leaves_do
