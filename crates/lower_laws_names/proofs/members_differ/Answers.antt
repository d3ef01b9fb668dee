use Rattle.lower_laws_names.proofs.Proved.{members_differ as law}
use Rattle.lower_laws_names.proofs.members_differ.Goals as goal

pub returns : goal.returns
returns c = law
