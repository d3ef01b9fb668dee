use Rattle.v1_deed_laws.proofs.Externs.{update_shows}
use Rattle.v1_deed_laws.proofs.checksums_are_updated.Goals as goal

pub returns : goal.returns
returns c = update_shows
