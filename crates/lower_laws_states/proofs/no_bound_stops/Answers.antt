use Rattle.lower_laws_states.proofs.Whole as laws
use Rattle.lower_laws_states.proofs.no_bound_stops.Goals as goal

pub returns : goal.returns
returns c = laws.no_bound_stops
