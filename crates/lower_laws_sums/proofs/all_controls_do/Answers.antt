use Rattle.lower_laws_sums.proofs.Blocks.{controls_alike}
use Rattle.lower_laws_sums.proofs.all_controls_do.Goals as goal

pub returns : goal.returns
returns c = controls_alike
