use Rattle.v1_control_laws.proofs.Answering.{controls_run}
use Rattle.v1_control_laws.proofs.controls_run_with_their_tables.Goals as goal

pub returns : goal.returns
returns c = controls_run
