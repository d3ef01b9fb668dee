use Rattle.v1model_program.proofs.Blocks.{blocks_do}
use Rattle.v1model_program.proofs.law.ready_blocks_do.Goals as goal

pub returns : goal.returns
returns c = blocks_do
