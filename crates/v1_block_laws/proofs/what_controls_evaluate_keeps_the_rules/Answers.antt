use Rattle.v1_block_laws.proofs.Blocks.{control_kept}
use Rattle.v1_block_laws.proofs.what_controls_evaluate_keeps_the_rules.Goals as goal

pub returns : goal.returns
returns c = control_kept
