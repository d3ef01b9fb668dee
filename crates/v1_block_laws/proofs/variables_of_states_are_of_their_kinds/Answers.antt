use Rattle.v1_block_laws.proofs.Blocks.{state_stands}
use Rattle.v1_block_laws.proofs.variables_of_states_are_of_their_kinds.Goals as goal

pub returns : goal.returns
returns c = state_stands
