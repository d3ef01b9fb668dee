use Rattle.v1_ready_laws.proofs.Programs.{program_gives}
use Rattle.v1_ready_laws.proofs.ready_expressions_of_a_program_give_their_values.Goals as goal

pub returns : goal.returns
returns c = program_gives
