use Rattle.v1_program_laws.proofs.ValueLaws.{values_begin}
use Rattle.v1_program_laws.proofs.variables_begin_with_values.Goals as goal

pub returns : goal.returns
returns c = values_begin
