use Rattle.v1_ready_laws.proofs.Judged.{judged_gives}
use Rattle.v1_ready_laws.proofs.ready_expressions_that_keep_the_rules_give_their_values.Goals as goal

pub returns : goal.returns
returns c = judged_gives
