use Rattle.lower_laws_states.proofs.Whole as laws
use Rattle.lower_laws_states.proofs.expansions_stand.Goals as goal

pub returns : goal.returns
returns c = laws.expansions_stand
