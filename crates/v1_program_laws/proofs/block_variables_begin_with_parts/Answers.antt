use Rattle.v1_program_laws.proofs.SourceLaws.{block_parts_begin}
use Rattle.v1_program_laws.proofs.block_variables_begin_with_parts.Goals as goal

pub returns : goal.returns
returns c = block_parts_begin
