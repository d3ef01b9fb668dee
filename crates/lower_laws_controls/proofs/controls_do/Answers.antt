use Rattle.lower_laws_controls.proofs.Control.{block_does}
use Rattle.lower_laws_controls.proofs.controls_do.Goals as goal

pub returns : goal.returns
returns c = block_does
