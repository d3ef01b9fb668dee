use Rattle.v1_place_laws.proofs.Writing.{slots_written}
use Rattle.v1_place_laws.proofs.slots_are_written_as_values_are.Goals as goal

pub returns : goal.returns
returns c = slots_written
