use Rattle.lower_laws_names.proofs.Proved.{variables_differ as law}
use Rattle.lower_laws_names.proofs.variables_differ.Goals as goal

pub returns : goal.returns
returns c = law
