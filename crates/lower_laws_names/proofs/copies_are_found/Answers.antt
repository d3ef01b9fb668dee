use Rattle.lower_laws_names.proofs.Listed.{each_found}
use Rattle.lower_laws_names.proofs.copies_are_found.Goals as goal

pub returns : goal.returns
returns c = each_found
