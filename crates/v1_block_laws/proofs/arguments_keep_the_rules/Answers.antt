use Rattle.v1_block_laws.proofs.Calling.{call_kept}
use Rattle.v1_block_laws.proofs.arguments_keep_the_rules.Goals as goal

pub returns : goal.returns
returns c = call_kept
