use Rattle.v1_block_laws.proofs.Blocks.{body_stands}
use Rattle.v1_block_laws.proofs.variables_of_controls_are_of_their_kinds.Goals as goal

pub returns : goal.returns
returns c = body_stands
