use Rattle.v1_program_laws.proofs.Joined.{action_bodies_do}
use Rattle.v1_program_laws.proofs.action_statements_do_the_same.Goals as goal

pub returns : goal.returns
returns c = action_bodies_do
