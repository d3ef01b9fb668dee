use Rattle.v1_block_laws.proofs.Standing.{apart}
use Rattle.v1_block_laws.proofs.variables_stand_one_behind_another.Goals as goal

pub returns : goal.returns
returns c = apart
