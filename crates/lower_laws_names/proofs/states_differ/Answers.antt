use Rattle.lower_laws_names.proofs.Proved.{states_differ as law}
use Rattle.lower_laws_names.proofs.states_differ.Goals as goal

pub returns : goal.returns
returns c = law
