use Rattle.refusal_laws.proofs.Refused.{next_port_not}
use Rattle.refusal_laws.proofs.the_next_port_is_refused.Goals as goal

pub returns : goal.returns
returns c = next_port_not
