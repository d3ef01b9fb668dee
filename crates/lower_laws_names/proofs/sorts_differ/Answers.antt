use Rattle.lower_laws_names.proofs.Proved.{sorts_differ as law}
use Rattle.lower_laws_names.proofs.sorts_differ.Goals as goal

pub returns : goal.returns
returns c = law
