use Rattle.v1_value_laws.proofs.Formed.{meant_kind}
use Rattle.v1_value_laws.proofs.l_values_stand_at_seats_of_their_kinds.Goals as goal

pub returns : goal.returns
returns c = meant_kind
