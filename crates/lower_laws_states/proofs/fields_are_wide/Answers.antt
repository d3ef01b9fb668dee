use Rattle.lower_laws_states.proofs.Whole as laws
use Rattle.lower_laws_states.proofs.fields_are_wide.Goals as goal

pub returns : goal.returns
returns c = laws.fields_are_wide
