use Rattle.v1_control_run.proofs.Seen.{parsed_seen}
use Rattle.v1_control_run.proofs.blocks.PreparedBlocksBlocks.parse.Goals as goal

pub returns-clause-parses : goal.returns-clause-parses
returns-clause-parses c = parsed_seen _ _ _ _ _ _ _ c.self.view_is c.in_ok-end.ensures.parses
