use Rattle.lower_laws_names.proofs.Proved.{outer_names_differ as law}
use Rattle.lower_laws_names.proofs.outer_names_differ.Goals as goal

pub returns : goal.returns
returns c = law
