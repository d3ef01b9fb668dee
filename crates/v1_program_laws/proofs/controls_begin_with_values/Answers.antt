use Rattle.v1_program_laws.proofs.ValueLaws.{initials_of_controls}
use Rattle.v1_program_laws.proofs.controls_begin_with_values.Goals as goal

pub returns : goal.returns
returns c = initials_of_controls
