use Rattle.lower_laws_names.proofs.Top.{control_once}
use Rattle.lower_laws_names.proofs.control_names_differ.Goals as goal

pub returns : goal.returns
returns c = control_once
