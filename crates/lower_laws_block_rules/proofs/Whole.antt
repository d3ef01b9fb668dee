-- The law of the blocks.
use Rattle.lower_laws_states.specs.Expansions.{Has}
use Rattle.lower_laws_block_rules.specs.Laws.{BlocksKeep}
use Rattle.lower_laws_block_rules.proofs.Controls.{pipeline_keeps, deparser_keeps}
use Rattle.lower_laws_block_rules.proofs.Parsers.{parser_keeps}

pub blocks_keep : BlocksKeep
blocks_keep = record {
  pipelines = λ s c ds k tables checks body h m d is. pipeline_keeps s c ds k (Has tables) checks body h m d is;
  deparsers = deparser_keeps;
  parsers = parser_keeps;
}
