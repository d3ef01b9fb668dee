use Rattle.lower_laws_states.proofs.Whole as laws
use Rattle.lower_laws_states.proofs.parsing_keeps_states.Goals as goal

pub returns : goal.returns
returns c = laws.parsing_keeps_states
