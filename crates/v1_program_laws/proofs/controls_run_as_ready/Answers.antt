use Rattle.v1_program_laws.proofs.Finished.{controls_do}
use Rattle.v1_program_laws.proofs.controls_run_as_ready.Goals as goal

pub returns : goal.returns
returns c = controls_do
