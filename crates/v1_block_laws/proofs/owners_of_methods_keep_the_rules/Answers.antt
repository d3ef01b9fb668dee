use Rattle.v1_block_laws.proofs.Calling.{owner_kept}
use Rattle.v1_block_laws.proofs.owners_of_methods_keep_the_rules.Goals as goal

pub returns : goal.returns
returns c = owner_kept
