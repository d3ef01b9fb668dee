use Rattle.lower_laws_states.proofs.Whole as laws
use Rattle.lower_laws_states.proofs.controls_keep_states.Goals as goal

pub returns : goal.returns
returns c = laws.controls_keep_states
