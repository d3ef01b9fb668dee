use Rattle.lower_laws_states.proofs.Whole as laws
use Rattle.lower_laws_states.proofs.primitives_keep_states.Goals as goal

pub returns : goal.returns
returns c = laws.primitives_keep_states
