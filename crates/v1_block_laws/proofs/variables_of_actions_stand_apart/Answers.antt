use Rattle.v1_block_laws.proofs.Blocks.{action_apart}
use Rattle.v1_block_laws.proofs.variables_of_actions_stand_apart.Goals as goal

pub returns : goal.returns
returns c = action_apart
