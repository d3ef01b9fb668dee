use Rattle.v1_deed_laws.proofs.Externs.{clone_shows}
use Rattle.v1_deed_laws.proofs.clones_are_requested.Goals as goal

pub returns : goal.returns
returns c = clone_shows
