use Rattle.lower_laws_actions.proofs.Entering.{action_acts}
use Rattle.lower_laws_actions.proofs.actions_act.Goals as goal

pub returns : goal.returns
returns c = action_acts
