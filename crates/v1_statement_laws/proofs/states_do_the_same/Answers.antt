use Rattle.v1_statement_laws.proofs.Bodies.{bodies_show}
use Rattle.v1_statement_laws.proofs.states_do_the_same.Goals as goal

pub returns : goal.returns
returns c = bodies_show
