use Rattle.lower_laws_names.proofs.Top.{top_once}
use Rattle.lower_laws_names.proofs.top_names_differ.Goals as goal

pub returns : goal.returns
returns c = λ ds x blocks h e. top_once ds x h blocks e
