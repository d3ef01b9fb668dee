use Rattle.lower_laws_names.proofs.Proved.{names_are_writable as law}
use Rattle.lower_laws_names.proofs.names_are_writable.Goals as goal

pub returns : goal.returns
returns c = law
