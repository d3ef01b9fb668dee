use Rattle.v1_ready_laws.proofs.Named.{names_give}
use Rattle.v1_ready_laws.proofs.names_mean_what_stands_at_their_seats.Goals as goal

pub returns : goal.returns
returns c = names_give
