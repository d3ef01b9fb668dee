use Rattle.lower_laws_block_rules.proofs.Whole as laws
use Rattle.lower_laws_block_rules.proofs.blocks_keep.Goals as goal

pub returns : goal.returns
returns c = laws.blocks_keep
