use Rattle.v1_deed_laws.proofs.Parts.{parts_put}
use Rattle.v1_deed_laws.proofs.parts_are_copied.Goals as goal

pub returns : goal.returns
returns c = parts_put
