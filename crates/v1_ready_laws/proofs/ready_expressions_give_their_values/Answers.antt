use Rattle.v1_ready_laws.proofs.Expressions.{ready_gives}
use Rattle.v1_ready_laws.proofs.ready_expressions_give_their_values.Goals as goal

pub returns : goal.returns
returns c = ready_gives
