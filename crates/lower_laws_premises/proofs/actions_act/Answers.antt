use Rattle.lower_laws_premises.proofs.Laws as laws
use Rattle.lower_laws_premises.proofs.actions_act.Goals as goal

pub returns : goal.returns
returns c = laws.actions_act
