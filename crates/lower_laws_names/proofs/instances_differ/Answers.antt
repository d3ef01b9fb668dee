use Rattle.lower_laws_names.proofs.Instances.{names_differ}
use Rattle.lower_laws_names.proofs.instances_differ.Goals as goal

pub returns : goal.returns
returns c = names_differ
