use Rattle.v1_program_laws.proofs.ParserLaws.{ready_state_is_made}
use Rattle.v1_program_laws.proofs.ready_states_are_made.Goals as goal

pub returns : goal.returns
returns c = ready_state_is_made
