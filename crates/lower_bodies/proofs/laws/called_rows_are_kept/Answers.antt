use Rattle.lower_bodies.proofs.Calling.{called_rows_are_kept}
use Rattle.lower_bodies.proofs.laws.called_rows_are_kept.Goals as goal

pub returns : goal.returns
returns c = called_rows_are_kept
