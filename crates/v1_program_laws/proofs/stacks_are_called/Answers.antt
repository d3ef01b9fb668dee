use Rattle.v1_program_laws.proofs.SourceLaws.{stacks_called}
use Rattle.v1_program_laws.proofs.stacks_are_called.Goals as goal

pub returns : goal.returns
returns c = stacks_called
