use Rattle.v1_block_laws.proofs.Blocks.{parser_kept}
use Rattle.v1_block_laws.proofs.what_the_parser_evaluates_keeps_the_rules.Goals as goal

pub returns : goal.returns
returns c = parser_kept
