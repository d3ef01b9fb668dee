use Rattle.v1_block_laws.proofs.Blocks.{body_apart}
use Rattle.v1_block_laws.proofs.variables_of_controls_stand_apart.Goals as goal

pub returns : goal.returns
returns c = body_apart
