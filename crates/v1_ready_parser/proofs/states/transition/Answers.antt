use Rattle.v1_ready_parser.proofs.Leading.{fits_in}
use Rattle.v1_ready_parser.proofs.states.transition.Goals as goal

pub returns-clause-within : goal.returns-clause-within
returns-clause-within c = fits_in c.ready_transition.new.expressions c.in_ok-found.found c.in_ok-found.ensures.within
