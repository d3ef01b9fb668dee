use Rattle.lower_bodies.proofs.Fitting.{fitting_rows_have}
use Rattle.lower_bodies.proofs.laws.fitting_rows_have.Goals as goal

pub returns : goal.returns
returns c = fitting_rows_have
