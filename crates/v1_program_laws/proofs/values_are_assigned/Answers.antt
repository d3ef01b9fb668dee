use Rattle.v1_program_laws.proofs.ValueLaws.{values_assigned}
use Rattle.v1_program_laws.proofs.values_are_assigned.Goals as goal

pub returns : goal.returns
returns c = values_assigned
