use Rattle.lower_laws_states.proofs.Whole as laws
use Rattle.lower_laws_states.proofs.passes_keep_states.Goals as goal

pub returns : goal.returns
returns c = laws.passes_keep_states
