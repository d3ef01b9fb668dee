use Rattle.lower_laws_states.proofs.Whole as laws
use Rattle.lower_laws_states.proofs.tables_fit.Goals as goal

pub returns : goal.returns
returns c = laws.tables_fit
