use Rattle.v1_program_laws.proofs.Joined.{body_leaves_do}
use Rattle.v1_program_laws.proofs.body_statements_do_the_same.Goals as goal

pub returns : goal.returns
returns c = body_leaves_do
