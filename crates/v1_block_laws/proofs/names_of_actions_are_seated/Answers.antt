use Rattle.v1_block_laws.proofs.Blocks.{action_seated}
use Rattle.v1_block_laws.proofs.names_of_actions_are_seated.Goals as goal

pub returns : goal.returns
returns c = action_seated
