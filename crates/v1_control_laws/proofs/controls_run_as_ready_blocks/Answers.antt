use Rattle.v1_control_laws.proofs.Concluding.{controls_show}
use Rattle.v1_control_laws.proofs.controls_run_as_ready_blocks.Goals as goal

pub returns : goal.returns
returns c = controls_show
