use Rattle.v1_block_laws.proofs.Blocks.{variable_seated}
use Rattle.v1_block_laws.proofs.names_stay_seated_behind_a_variable.Goals as goal

pub returns : goal.returns
returns c = variable_seated
