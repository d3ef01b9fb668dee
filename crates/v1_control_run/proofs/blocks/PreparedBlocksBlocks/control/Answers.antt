use Rattle.v1_control_run.proofs.Seen.{control_seen}
use Rattle.v1_control_run.proofs.blocks.PreparedBlocksBlocks.control.Goals as goal

pub returns-clause-runs : goal.returns-clause-runs
returns-clause-runs c = control_seen _ _ _ _ _ _ _ _ _ c.self.view_is c.in_ok-run_control.ensures.runs
