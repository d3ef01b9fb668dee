use Rattle.v1_block_laws.proofs.Blocks.{action_stands}
use Rattle.v1_block_laws.proofs.variables_of_actions_are_of_their_kinds.Goals as goal

pub returns : goal.returns
returns c = action_stands
