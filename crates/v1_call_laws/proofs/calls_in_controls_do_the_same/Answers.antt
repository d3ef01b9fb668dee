use Rattle.v1_call_laws.proofs.Controls.{control_calls_show}
use Rattle.v1_call_laws.proofs.calls_in_controls_do_the_same.Goals as goal

pub returns : goal.returns
returns c = control_calls_show
