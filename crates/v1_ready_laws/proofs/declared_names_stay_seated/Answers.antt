use Rattle.v1_ready_laws.proofs.Seated.{inside_seated}
use Rattle.v1_ready_laws.proofs.declared_names_stay_seated.Goals as goal

pub returns : goal.returns
returns c = inside_seated
