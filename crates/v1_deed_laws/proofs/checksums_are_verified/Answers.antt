use Rattle.v1_deed_laws.proofs.Externs.{verify_shows}
use Rattle.v1_deed_laws.proofs.checksums_are_verified.Goals as goal

pub returns : goal.returns
returns c = verify_shows
