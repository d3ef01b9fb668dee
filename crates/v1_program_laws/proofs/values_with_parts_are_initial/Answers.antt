use Rattle.v1_program_laws.proofs.SourceLaws.{all_parts_begin}
use Rattle.v1_program_laws.proofs.values_with_parts_are_initial.Goals as goal

pub returns : goal.returns
returns c = all_parts_begin
