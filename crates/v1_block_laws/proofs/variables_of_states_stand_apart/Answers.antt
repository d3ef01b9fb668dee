use Rattle.v1_block_laws.proofs.Blocks.{state_apart}
use Rattle.v1_block_laws.proofs.variables_of_states_stand_apart.Goals as goal

pub returns : goal.returns
returns c = state_apart
