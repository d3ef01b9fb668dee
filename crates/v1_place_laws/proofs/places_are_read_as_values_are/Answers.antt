use Rattle.v1_place_laws.proofs.Marking.{place_read}
use Rattle.v1_place_laws.proofs.places_are_read_as_values_are.Goals as goal

pub returns : goal.returns
returns c = place_read
