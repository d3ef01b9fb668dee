use Rattle.v1_deed_laws.proofs.Slots.{slots_put}
use Rattle.v1_deed_laws.proofs.values_are_put.Goals as goal

pub returns : goal.returns
returns c = slots_put
