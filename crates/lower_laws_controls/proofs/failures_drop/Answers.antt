use Rattle.lower_laws_controls.proofs.Control.{block_drops}
use Rattle.lower_laws_controls.proofs.failures_drop.Goals as goal

pub returns : goal.returns
returns c = block_drops
