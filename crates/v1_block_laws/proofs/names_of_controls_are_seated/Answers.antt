use Rattle.v1_block_laws.proofs.Blocks.{control_seated}
use Rattle.v1_block_laws.proofs.names_of_controls_are_seated.Goals as goal

pub returns : goal.returns
returns c = control_seated
