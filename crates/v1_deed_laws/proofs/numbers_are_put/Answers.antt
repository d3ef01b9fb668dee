use Rattle.v1_deed_laws.proofs.Slots.{numbers_put}
use Rattle.v1_deed_laws.proofs.numbers_are_put.Goals as goal

pub returns : goal.returns
returns c = numbers_put
