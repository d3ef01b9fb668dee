use Rattle.lower_laws_states.proofs.Whole as laws
use Rattle.lower_laws_states.proofs.arrival_is_kept.Goals as goal

pub returns : goal.returns
returns c = laws.arrival_is_kept
