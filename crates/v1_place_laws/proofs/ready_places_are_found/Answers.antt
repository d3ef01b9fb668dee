use Rattle.v1_place_laws.proofs.Finding.{places_found}
use Rattle.v1_place_laws.proofs.ready_places_are_found.Goals as goal

pub returns : goal.returns
returns c = places_found
