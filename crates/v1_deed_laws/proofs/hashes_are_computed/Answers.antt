use Rattle.v1_deed_laws.proofs.Externs.{hash_shows}
use Rattle.v1_deed_laws.proofs.hashes_are_computed.Goals as goal

pub returns : goal.returns
returns c = hash_shows
