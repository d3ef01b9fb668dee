use Rattle.v1_program_laws.proofs.SourceLaws.{sources_sought}
use Rattle.v1_program_laws.proofs.sources_reach_what_is_meant.Goals as goal

pub returns : goal.returns
returns c = sources_sought
